-- What a line states: one round, or none where a field writes no number.
use Rattle.std.proofs.Common.{◌≡◌, ℕ, ◌<◌, false, eqb, ne_eqb, List, [], ◌∷◌, map, length, get_or, decimal, sym, refl, ap, ◌∙◌, arith}
use lib.ListN.{length-map}
use Rattle.std.specs.List.{AllByRecursion}
use Rattle.std.proofs.lemmas.Fmt.{decimal_is_IsNumeral, decimal_injective}
use Rattle.std.proofs.ByRecursion.{All-get_or, All-weaker, All-map}
use Rattle.std.proofs.lemmas.List.{get_or-map}
use Rattle.std.proofs.lemmas.Str.Parse.{digit_at}
use Rattle.std.proofs.lemmas.List.Elements.{All-from_get_or}
use Rattle.fields.specs.Fields.{comma, parts}
use Rattle.fields.specs.Numbers.{Short}
use Rattle.fields.proofs.Joins.{Whole, parts_joined}
use Rattle.rounds.specs.Round.{States, OneRound, NoRound}

-- a decimal text has no comma
decimal_whole : (n : ℕ) → Short n → Whole (decimal n)
decimal_whole n lt =
    All-from_get_or (λ byte. eqb byte comma ≡ false) (decimal n) 0
    (λ k within. let digit = digit_at (decimal n) k (decimal_is_IsNumeral n (omega arith)).0.1 within in ne_eqb (get_or (decimal n) k 0) comma (λ e. omega arith))

-- the fields of a line are the texts of the minutes that it states
stated_parts : (line minutes : List ℕ) → States line minutes → parts line ≡ map decimal minutes
stated_parts line minutes h =
    ap parts h.text
    ∙ parts_joined (map decimal minutes) (omega (arith, h.some, length-map minutes decimal)) (All-map Whole decimal minutes (All-weaker Short (λ m. Whole (decimal m)) decimal_whole minutes h.short))

same_from_decimals : (these those : List ℕ) → AllByRecursion Short these → AllByRecursion Short those → map decimal these ≡ map decimal those → these ≡ those
same_from_decimals [] [] hs ks e = refl
same_from_decimals [] (n ∷ ns) hs ks e = cc
same_from_decimals (m ∷ ms) [] hs ks e = cc
same_from_decimals (m ∷ ms) (n ∷ ns) hs ks e =
    let first : decimal m ≡ decimal n = cc in
    let others : map decimal ms ≡ map decimal ns = cc in
    let lt = hs.0 in
    let lt' = ks.0 in
    let head = decimal_injective m n (omega arith) (omega arith) first in
    let tail = same_from_decimals ms ns hs.1 ks.1 others in
    cc

pub one_round : OneRound
one_round line these those h k = same_from_decimals these those h.short k.short (sym (stated_parts line these h) ∙ stated_parts line those k)

pub no_round : NoRound
no_round line minutes event fault h =
    let same = stated_parts line minutes h in
    let within : event < length minutes = omega (arith, fault.within, ap length same, length-map minutes decimal) in
    fault.none (get_or minutes event 0) (record {
      short = All-get_or Short minutes event 0 within h.short;
      text = ap (λ ws. get_or ws event []) same ∙ get_or-map decimal minutes event 0 [] within;
    })
