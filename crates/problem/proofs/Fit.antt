-- Checks that all pass, as the rules of a problem do.
use Rattle.std.proofs.Common.{◌≡◌, Bool, true, false, cond, List, [], ◌∷◌, ◌++◌, Some, None, Option, refl, ap, ◌∙◌}
use Rattle.std.specs.List.{flat_map, All, AllByRecursion}
use Rattle.std.proofs.ByRecursion.{All-get_or}
use Rattle.std.proofs.lemmas.Bool.{and_from, and_parts, false≢true}
use Rattle.problem.specs.declared.day.Day.{Day}
use Rattle.problem.specs.declared.refusal.Refusal.{Refusal}
use Rattle.problem.specs.Checks.{Check, first_refusal, passes, kind_checks, disjunct_checks, rule_checks}
use Rattle.problem.specs.Rules.{Rule}

-- nothing is refused, so the first check holds and the others refuse nothing
pub held : (t : Bool) (o : Option Refusal) (e : Refusal) → None ≡ cond t o (Some e) → (t ≡ true) × (None ≡ o)
held true o e h = (refl, h)
held false o e h = let z : ◌≡◌ {A = Bool} false true = cc in absurd (false≢true z)

-- nothing is refused, so all pass
pub passes_all : (cs : List Check) → None ≡ first_refusal cs → passes cs ≡ true
passes_all [] h = refl
passes_all (c ∷ cs) h =
    let p = held c.holds (first_refusal cs) c.otherwise h in
    and_from c.holds (passes cs) p.0 (passes_all cs p.1)

pub passes_append : (cs ds : List Check) → passes cs ≡ true → passes ds ≡ true → passes (cs ++ ds) ≡ true
passes_append [] ds h k = k
passes_append (c ∷ cs) ds h k =
    let p = and_parts c.holds (passes cs) h in
    and_from c.holds (passes (cs ++ ds)) p.0 (passes_append cs ds p.1 k)

pub passes_parts : (cs ds : List Check) → passes (cs ++ ds) ≡ true → (passes cs ≡ true) × (passes ds ≡ true)
passes_parts [] ds h = (refl, h)
passes_parts (c ∷ cs) ds h =
    let p = and_parts c.holds (passes (cs ++ ds)) h in
    let q = passes_parts cs ds p.1 in
    (and_from c.holds (passes cs) p.0 q.0, q.1)

module _ {X : Type 0} (f : X → List Check) where
  pub passes_push : (xs : List X) (x : X) → passes (flat_map f xs) ≡ true → passes (f x) ≡ true → passes (flat_map f (xs ++ x ∷ [])) ≡ true
  passes_push [] x h k = passes_append (f x) [] k refl
  passes_push (y ∷ ys) x h k =
      let p = passes_parts (f y) (flat_map f ys) h in
      passes_append (f y) (flat_map f (ys ++ x ∷ [])) p.0 (passes_push ys x p.1 k)

  -- one element more, which is not refused
  pub passes_adopted : (xs ys : List X) (x : X) → ys ≡ xs ++ x ∷ [] → passes (flat_map f xs) ≡ true → None ≡ first_refusal (f x) → passes (flat_map f ys) ≡ true
  passes_adopted xs ys x e h k = ap (λ zs. passes (flat_map f zs)) e ∙ passes_push xs x h (passes_all (f x) k)

  -- all pass, so those of each element do
  pub passes_each : (xs : List X) → passes (flat_map f xs) ≡ true → AllByRecursion (λ x. passes (f x) ≡ true) xs
  passes_each [] h = tt
  passes_each (x ∷ xs) h = let p = passes_parts (f x) (flat_map f xs) h in (p.0, passes_each xs p.1)

-- the options of a rule that fits the day do
pub options_fit : (day : Day) (r : Rule) → passes (rule_checks day r) ≡ true → All (λ d. passes (disjunct_checks day d) ≡ true) r.options
options_fit day r h =
    let options = (passes_parts (kind_checks r.kind) (flat_map (disjunct_checks day) r.options) (and_parts _ _ h).1).1 in
    λ k d l. All-get_or (λ x. passes (disjunct_checks day x) ≡ true) r.options k d l (passes_each (disjunct_checks day) r.options options)
