-- A selection, read at the constraints of its problem.
use Rattle.std.proofs.Common.{◌≡◌, ℕ, ◌+◌, ◌<◌, ◌≤◌, true, List, [], ◌∷◌, ◌++◌, map, length, get_or, take, Some, None, Option, Bor, Iter, refl, sym, ap, ◌∙◌, subst, arith}
use Rattle.std.proofs.iter.Yields.{fronts}
use Rattle.std.proofs.lemmas.Iterator.{zips}
use Rattle.std.proofs.lemmas.List.{length-map, get_or-map, length-append, take_all}
use Rattle.std.proofs.lemmas.Slice.Zip.{zip_turn, zip_end}
use Rattle.std.specs.Iterator.{Yields}
use Rattle.std.specs.Iterator.Adapters.{zip_first, zip_second, enumerate_source, enumerate_count, enumerate_steps}
use Rattle.std.specs.Slice.Iter.{iter_rest}
use Rattle.std.specs.declared.iter.Enumerate.{Enumerate}
use Rattle.std.specs.declared.iter.Zip.{Zip}
use Rattle.problem.specs.Problems.{rules_of}
use Rattle.problem.specs.Rules.{Rule, rule_of}
use Rattle.problem.specs.Timetables.{choices}
use Rattle.problem.specs.declared.constraint.Constraint.{Constraint}
use Rattle.problem.specs.declared.problems.Problem.{Problem}
use Rattle.problem.proofs.Said.{rules_count}
use Rattle.search.specs.Selections.{no_choice, picked}
use Rattle.search.specs.Tests.{selects}
use Rattle.planner.specs.Choosing.{width_at}
use Rattle.planner.proofs.Choosing.{width_at_is, selects_length, selects_at, picked_at}

-- a selection has at most 32 choices
pub few_choices : (p : Problem) (ns : List ℕ) → selects (rules_of p) ns ≡ true → length ns ≤ 32
few_choices p ns placed = let n = selects_length (rules_of p) ns placed in omega (arith, rules_count p, p.few)

-- there are as many constraints as choices
pub counted : (rules : List Rule) (cs : List Constraint) (ns : List ℕ) → map rule_of cs ≡ rules → selects rules ns ≡ true → length cs ≡ length ns
counted rules cs ns told placed = sym (length-map cs rule_of) ∙ ap length told ∙ sym (selects_length rules ns placed)

-- the rule that the constraint at place i states
pub rule_at : (rules : List Rule) (cs : List Constraint) → map rule_of cs ≡ rules → (i : ℕ) (c : Constraint) → i < length cs → c ≡ get_or cs i c → (d : Rule) → get_or rules i d ≡ rule_of c
rule_at rules cs told i c l e d = ap (λ rs. get_or rs i d) (sym told) ∙ get_or-map rule_of cs i c d l ∙ ap rule_of (sym e)

module _ (rules : List Rule) (ns : List ℕ) (placed : selects rules ns ≡ true) (i : ℕ) (r : Rule) (l : i < length ns) (at : (d : Rule) → get_or rules i d ≡ r) where
  pub width_read : width_at rules i ≡ length (choices r)
  width_read = let n = selects_length rules ns placed in width_at_is rules i r (omega arith) ∙ ap (λ q. length (choices q)) (at r)

  -- each choice is one of its rule's
  pub choice_within : get_or ns i 0 < length (choices r)
  choice_within =
      let n = selects_length rules ns placed in
      let w = width_read in
      let m : get_or ns i 0 < width_at rules i = selects_at rules ns i placed (omega arith) in
      omega arith

  -- and the one that is picked
  pub choice_read : get_or (picked rules ns) i no_choice ≡ get_or (choices r) (get_or ns i 0) no_choice
  choice_read =
      let n = selects_length rules ns placed in
      picked_at rules ns i r (omega arith) l ∙ ap (λ q. get_or (choices q) (get_or ns i 0) no_choice) (at r)

-- one choice more is taken after each turn of a loop
pub taken_more : {X : Type 0} (xs : List X) (x : X) (ns : List ℕ) → take (length (xs ++ x ∷ [])) ns ≡ take (length xs + 1) ns
taken_more xs x ns = ap (λ k. take k ns) (length-append xs (x ∷ []))

-- a loop over the constraints and the choices side by side, which has yielded xs
module _ (rules : List Rule) (cs : List Constraint) (told : map rule_of cs ≡ rules) (ns : List ℕ) (placed : selects rules ns ≡ true) (xs : List (Bor Constraint × Bor ℕ)) (s t u : Zip (Iter Constraint) (Iter ℕ))
    (o : Option (Bor Constraint × Bor ℕ)) (first : iter_rest (zip_first s) ≡ cs) (second : iter_rest (zip_second s) ≡ ns) (y : Yields (zips fronts fronts) s xs t) (step : zips fronts fronts t o u) where
  module _ (c : Bor Constraint) (n : Bor ℕ) (got : o ≡ Some (c, n)) where
    turn : (length xs < length cs) × (length xs < length ns) × ((d : Constraint) → c.now ≡ get_or cs (length xs) d) × ((d : ℕ) → n.now ≡ get_or ns (length xs) d)
    turn = zip_turn cs ns xs s t u o first second y (c, n) got step

    at_turn : (d : Rule) → get_or rules (length xs) d ≡ rule_of c.now
    at_turn = rule_at rules cs told (length xs) c.now turn.0 (turn.2 c.now)

    pub turn_within : length xs < length ns
    turn_within = turn.1

    -- the choice is one of the rule's
    pub turn_choice : n.now < length (choices (rule_of c.now))
    turn_choice = subst (λ k. k < length (choices (rule_of c.now))) (sym (turn.3 0)) (choice_within rules ns placed (length xs) (rule_of c.now) turn.1 at_turn)

    -- and the one that is picked
    pub turn_read : get_or (picked rules ns) (length xs) no_choice ≡ get_or (choices (rule_of c.now)) n.now no_choice
    turn_read = choice_read rules ns placed (length xs) (rule_of c.now) turn.1 at_turn ∙ ap (λ k. get_or (choices (rule_of c.now)) k no_choice) (sym (turn.3 0))

  pub turns_end : o ≡ None → take (length xs) ns ≡ ns
  turns_end none =
      let n = counted rules cs ns told placed in
      let all = zip_end cs ns xs s t u o first second y none step in
      take_all (length xs) ns (omega arith)

-- items that are numbered
numbered : {S A : Type 0} (steps : S → Option A → S → Type 0) (xs : List (ℕ × A)) (s t : Enumerate S) → Yields (enumerate_steps steps) s xs t
    → Yields steps (enumerate_source s) (map (λ p. p.1) xs) (enumerate_source t) × (enumerate_count t ≡ enumerate_count s + length xs)
numbered steps [] s t y = (ap enumerate_source y, omega (arith, ap enumerate_count y))
numbered steps (x ∷ xs) s t y =
    let k = numbered steps xs y.0 t y.2 in
    ((enumerate_source y.0, y.1.0, k.0), omega (arith, k.1, y.1.2))

-- a loop over the constraints and the choices side by side, with their numbers
module _ (rules : List Rule) (cs : List Constraint) (told : map rule_of cs ≡ rules) (ns : List ℕ) (placed : selects rules ns ≡ true) (xs : List (ℕ × (Bor Constraint × Bor ℕ))) (s t u : Enumerate (Zip (Iter Constraint) (Iter ℕ)))
    (o : Option (ℕ × (Bor Constraint × Bor ℕ))) (first : iter_rest (zip_first (enumerate_source s)) ≡ cs) (second : iter_rest (zip_second (enumerate_source s)) ≡ ns) (start : enumerate_count s ≡ 0)
    (y : Yields (enumerate_steps (zips fronts fronts)) s xs t) (step : enumerate_steps (zips fronts fronts) t o u) where
  abbrev pairs : List (Bor Constraint × Bor ℕ)
  pairs = map (λ p. p.1) xs

  long : length pairs ≡ length xs
  long = length-map xs (λ p. p.1)

  run : Yields (zips fronts fronts) (enumerate_source s) pairs (enumerate_source t) × (enumerate_count t ≡ enumerate_count s + length xs)
  run = numbered (zips fronts fronts) xs s t y

  module _ (i : ℕ) (c : Bor Constraint) (n : Bor ℕ) (got : o ≡ Some (i, (c, n))) where
    here : enumerate_steps (zips fronts fronts) t (Some (i, (c, n))) u
    here = subst (λ r. enumerate_steps (zips fronts fronts) t r u) got step

    pub number_is : i ≡ length xs
    number_is = omega (arith, here.1, run.1, start)

    pub number_within : length xs < length ns
    number_within =
        let w = turn_within rules cs told ns placed pairs (enumerate_source s) (enumerate_source t) (enumerate_source u) (Some (c, n)) first second run.0 here.0 c n refl in
        omega (arith, w, long)

    pub number_read : get_or (picked rules ns) (length xs) no_choice ≡ get_or (choices (rule_of c.now)) n.now no_choice
    number_read =
        ap (λ k. get_or (picked rules ns) k no_choice) (sym long)
        ∙ turn_read rules cs told ns placed pairs (enumerate_source s) (enumerate_source t) (enumerate_source u) (Some (c, n)) first second run.0 here.0 c n refl

  pub numbers_end : o ≡ None → take (length xs) ns ≡ ns
  numbers_end none =
      let last = subst (λ r. enumerate_steps (zips fronts fronts) t r u) none step in
      ap (λ k. take k ns) (sym long) ∙ turns_end rules cs told ns placed pairs (enumerate_source s) (enumerate_source t) (enumerate_source u) None first second run.0 last.0 refl
