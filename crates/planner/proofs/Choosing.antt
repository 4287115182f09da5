-- Facts on the choices of a rule, and on selections.
use Rattle.std.proofs.Common.{◌≡◌, ℕ, zero, suc, ◌+◌, ◌<◌, true, ltb, List, [], ◌∷◌, ◌++◌, map, length, get_or, take, None, sym, refl, ap, ◌∙◌, le_of_suc-le-suc, arith}
use Rattle.std.proofs.lemmas.List.{take_more, length-append, length-map}
use Rattle.std.proofs.lemmas.Bool.{and_parts, ltb-true, false≢true}
use Rattle.problem.specs.Rules.{Rule}
use Rattle.problem.specs.Timetables.{option, give_up, giving_up, choices}
use Rattle.problem.specs.declared.constraint.Disjunct.{Disjunct}
use Rattle.problem.specs.declared.constraint.Kind.{Kind}
use Rattle.problem.specs.declared.constraint.Kind.TheVariants.{Firm, Wish}
use Rattle.counting.specs.declared.penalty.Penalty.{Penalty}
use Rattle.search.specs.Selections.{no_choice, picked}
use Rattle.search.specs.Tests.{selects}
use Rattle.search.proofs.Choosing.{picked_take}
use Rattle.planner.specs.Choosing.{as_option, width_at}

pub width_firm : (r : Rule) → r.kind ≡ Firm → length (choices r) ≡ length r.options
width_firm r e =
    ap (λ k. length (map option r.options ++ giving_up k)) e
    ∙ length-append (map option r.options) [] ∙ (let n = length-map r.options option in omega arith)

pub width_wish : (r : Rule) (p : Penalty) → r.kind ≡ Wish p → length (choices r) ≡ length r.options + 1
width_wish r p e =
    ap (λ k. length (map option r.options ++ giving_up k)) e
    ∙ length-append (map option r.options) (give_up p ∷ []) ∙ (let n = length-map r.options option in omega arith)

-- a choice that is there and takes no option gives up
pub firm_never : (ds : List Disjunct) (k : Kind) (n : ℕ) → k ≡ Firm → as_option (get_or (map option ds ++ giving_up k) n no_choice) ≡ None → n < length (map option ds ++ giving_up k) → ⊥
firm_never [] Firm n k e l = absurd (omega arith)
firm_never [] (Wish p) n k e l = cc
firm_never (d ∷ ds) k zero f e l = cc
firm_never (d ∷ ds) k (suc n) f e l = firm_never ds k n f e (le_of_suc-le-suc l)

pub wish_given_up : (ds : List Disjunct) (k : Kind) (n : ℕ) (p : Penalty) → k ≡ Wish p → as_option (get_or (map option ds ++ giving_up k) n no_choice) ≡ None → n < length (map option ds ++ giving_up k)
    → get_or (map option ds ++ giving_up k) n no_choice ≡ give_up p
wish_given_up [] Firm n p k e l = absurd (omega arith)
wish_given_up [] (Wish q) zero p k e l = let same : q ≡ p = cc in ap give_up same
wish_given_up [] (Wish q) (suc n) p k e l = absurd (omega arith)
wish_given_up (d ∷ ds) k zero p w e l = absurd (let never : ⊥ = cc in never)
wish_given_up (d ∷ ds) k (suc n) p w e l = wish_given_up ds k n p w e (le_of_suc-le-suc l)

pub selects_length : (rules : List Rule) (ns : List ℕ) → selects rules ns ≡ true → length ns ≡ length rules
selects_length [] [] h = refl
selects_length [] (n ∷ ns) h = absurd (false≢true h)
selects_length (r ∷ rules) [] h = absurd (false≢true h)
selects_length (r ∷ rules) (n ∷ ns) h = ap suc (selects_length rules ns (and_parts (ltb n (length (choices r))) _ h).1)

pub selects_at : (rules : List Rule) (ns : List ℕ) (i : ℕ) → selects rules ns ≡ true → i < length rules → get_or ns i 0 < width_at rules i
selects_at [] ns i h l = absurd (omega arith)
selects_at (r ∷ rules) [] i h l = absurd (false≢true h)
selects_at (r ∷ rules) (n ∷ ns) zero h l = ltb-true _ _ (and_parts (ltb n (length (choices r))) _ h).0
selects_at (r ∷ rules) (n ∷ ns) (suc i) h l = selects_at rules ns i (and_parts (ltb n (length (choices r))) _ h).1 (le_of_suc-le-suc l)

pub width_at_is : (rules : List Rule) (i : ℕ) (d : Rule) → i < length rules → width_at rules i ≡ length (choices (get_or rules i d))
width_at_is [] i d l = absurd (omega arith)
width_at_is (r ∷ rules) zero d l = refl
width_at_is (r ∷ rules) (suc i) d l = width_at_is rules i d (le_of_suc-le-suc l)

-- what is picked of a rule is its choice of that number
pub picked_at : (rules : List Rule) (ns : List ℕ) (i : ℕ) (d : Rule) → i < length rules → i < length ns
    → get_or (picked rules ns) i no_choice ≡ get_or (choices (get_or rules i d)) (get_or ns i 0) no_choice
picked_at [] ns i d l m = absurd (omega arith)
picked_at (r ∷ rules) [] i d l m = absurd (omega arith)
picked_at (r ∷ rules) (n ∷ ns) zero d l m = refl
picked_at (r ∷ rules) (n ∷ ns) (suc i) d l m = picked_at rules ns i d (le_of_suc-le-suc l) (le_of_suc-le-suc m)

-- a choice is picked of each rule
pub picked_length : (rules : List Rule) (ns : List ℕ) → selects rules ns ≡ true → length (picked rules ns) ≡ length ns
picked_length [] [] h = refl
picked_length [] (n ∷ ns) h = absurd (false≢true h)
picked_length (r ∷ rules) [] h = absurd (false≢true h)
picked_length (r ∷ rules) (n ∷ ns) h = ap suc (picked_length rules ns (and_parts (ltb n (length (choices r))) _ h).1)

-- one choice more
pub picked_more : (rules : List Rule) (ns : List ℕ) (i : ℕ) → selects rules ns ≡ true → i < length ns
    → picked rules (take (i + 1) ns) ≡ picked rules (take i ns) ++ get_or (picked rules ns) i no_choice ∷ []
picked_more rules ns i placed l =
    let n = picked_length rules ns placed in
    picked_take rules ns (i + 1) ∙ take_more (picked rules ns) i no_choice (omega arith) ∙ ap (λ chs. chs ++ get_or (picked rules ns) i no_choice ∷ []) (sym (picked_take rules ns i))
