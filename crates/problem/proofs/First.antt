-- The first refusal among checks, one list after another.
use Rattle.std.proofs.Common.{◌≡◌, ℕ, ◌+◌, ◌<◌, Bool, true, false, cond, List, [], ◌∷◌, ◌++◌, length, get_or, drop, pos, Some, None, Option, sym, refl, ap, ◌∙◌}
use Rattle.std.specs.List.{flat_map}
use Rattle.std.proofs.lemmas.List.{at_drop_more}
use Rattle.problem.specs.declared.constraint.Disjunct.{Disjunct}
use Rattle.problem.specs.declared.refusal.Refusal.{Refusal}
use Rattle.problem.specs.Checks.{Check, first_refusal}

-- the first of two
abbrev pub or_else : Option Refusal → Option Refusal → Option Refusal
or_else None b = b
or_else (Some e) b = Some e

or_else_cond : (t : Bool) (a b : Option Refusal) (e : Refusal) → cond t (or_else a b) (Some e) ≡ or_else (cond t a (Some e)) b
or_else_cond true a b e = refl
or_else_cond false a b e = refl

pub first_append : (cs ds : List Check) → first_refusal (cs ++ ds) ≡ or_else (first_refusal cs) (first_refusal ds)
first_append [] ds = refl
first_append (c ∷ cs) ds =
    ap (λ o. cond c.holds o (Some c.otherwise)) (first_append cs ds)
    ∙ or_else_cond c.holds (first_refusal cs) (first_refusal ds) c.otherwise

-- what a list of disjuncts has past its end
abbrev pub past_end : Disjunct
past_end = record { x = 0; y = 0; lo = pos 0; hi = pos 0; penalty = record { breaches = 0; points = 0 } }

module _ {X : Type 0} (f : X → List Check) (xs : List X) (i : ℕ) (d : X) (within : i < length xs) where
  -- from place i on: the checks of what stands there, or else the rest
  pub first_from : first_refusal (flat_map f (drop i xs)) ≡ or_else (first_refusal (f (get_or xs i d))) (first_refusal (flat_map f (drop (i + 1) xs)))
  first_from = at_drop_more (λ ys. first_refusal (flat_map f ys)) xs i d within ∙ first_append (f (get_or xs i d)) (flat_map f (drop (i + 1) xs))

  -- what stands there passes, so the rest decides
  pub first_passed : None ≡ first_refusal (f (get_or xs i d)) → first_refusal (flat_map f (drop i xs)) ≡ first_refusal (flat_map f (drop (i + 1) xs))
  first_passed h = first_from ∙ ap (λ o. or_else o (first_refusal (flat_map f (drop (i + 1) xs)))) (sym h)

  -- what stands there is refused
  pub first_failed : (e : Refusal) → Some e ≡ first_refusal (f (get_or xs i d)) → Some e ≡ first_refusal (flat_map f (drop i xs))
  first_failed e h = sym (first_from ∙ ap (λ o. or_else o (first_refusal (flat_map f (drop (i + 1) xs)))) (sym h))
