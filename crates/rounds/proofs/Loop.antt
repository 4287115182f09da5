-- A line read field by field.
use Rattle.std.proofs.Common.{◌≡◌, ℕ, ◌<◌, ◌^◌, List, [], ◌∷◌, ◌++◌, map, length, get_or, eqb, decimal, sym, ap, ◌∙◌, subst, arith, length-append}
use lib.ListN.{length-map}
use Rattle.std.specs.List.{AllByRecursion}
use Rattle.std.proofs.ByRecursion.{All-get_or}
use Rattle.std.proofs.lemmas.List.{get_or-map, get_or_at, get_or_append_left}
use Rattle.fields.specs.Fields.{comma, parts}
use Rattle.fields.specs.Numbers.{Short, Writes}
use Rattle.std.proofs.lemmas.List.Sums.{count_by-le-length}
use Rattle.std.proofs.lemmas.List.Splits.{length-slice_split}
use Rattle.rounds.specs.Round.{FirstFault}

-- the minutes were read from the first fields of the line, and the others are left
pub record Sofar (line minutes : List ℕ) (left : List (List ℕ)) : Type 0 where
  pub fields : parts line ≡ map decimal minutes ++ left
  pub short : AllByRecursion Short minutes

-- the next field is no number
pub none_read : {line minutes field : List ℕ} {left after : List (List ℕ)} {event : ℕ} → Sofar line minutes left → left ≡ field ∷ after → ((minute : ℕ) → Writes field minute → ⊥) → event ≡ length minutes → FirstFault line event
none_read {line} {minutes} {field} {left} {after} {event} sofar next none count =
    let front = map decimal minutes in
    let same : parts line ≡ front ++ (field ∷ after) = sofar.fields ∙ ap (λ ws. front ++ ws) next in
    let long : length front ≡ event = length-map minutes decimal ∙ sym count in
    record {
      within = omega (arith, ap length same, length-append front (field ∷ after));
      none = λ minute h. none minute (subst (λ w. Writes w minute) (ap (λ ws. get_or ws event []) same ∙ get_or_at front field after [] event long) h);
      before = λ earlier lt. (
        get_or minutes earlier 0,
        record {
          short = All-get_or Short minutes earlier 0 (omega arith) sofar.short;
          text = ap (λ ws. get_or ws earlier []) same ∙ get_or_append_left front (field ∷ after) [] earlier (omega arith) ∙ get_or-map decimal minutes earlier 0 [] (omega arith);
        },
      );
    }

-- a text has one part more at most than bytes
pub few_parts : (line : List ℕ) → length line < 2 ^ 63 → length (parts line) < 2 ^ 64
few_parts line short = omega (arith, length-slice_split (λ byte. eqb byte comma) line, count_by-le-length (λ byte. eqb byte comma) line)
