-- What a timetable costs, under a way of counting.
--   charge        the penalty of a choice
--   choice_cost   what a choice costs
--   Least         the least cost among the choices that a timetable meets
--   RuleCost      what a rule costs under a timetable
--   Costs         what a timetable costs under rules
use Rattle.std.specs.Prelude.{◌≡◌, ℕ, List, [], ◌∷◌, fold}
use Rattle.std.specs.List.{AllByRecursion}
use Rattle.counting.specs.Ways.{Way, AtMost}
use Rattle.counting.specs.declared.penalty.Penalty.{Penalty}
use Rattle.problem.specs.Rules.{Rule}
use Rattle.problem.specs.Timetables.{Choice, choices, Chosen, Any}

-- an option's own penalty, or that of giving up
abbrev pub charge : Choice → Penalty
charge (Choice.option d) = d.penalty
charge (Choice.give_up p) = p

-- R holds between the elements of two lists, place by place
abbrev pub Pairwise : {X Y : Type 0} → (X → Y → Type 0) → List X → List Y → Type 0
Pairwise R [] [] = Unit {0}
Pairwise R [] (y ∷ ys) = ⊥
Pairwise R (x ∷ xs) [] = ⊥
Pairwise R (x ∷ xs) (y ∷ ys) = R x y × Pairwise R xs ys

module _ {C : Type 0} (way : Way C) where
  -- the reading of its penalty
  abbrev pub choice_cost : Choice → C
  choice_cost ch = way.reading (charge ch)

  -- some choice that T meets costs c, and none that T meets costs less
  pub record Least (T : ℕ → ℕ) (chs : List Choice) (c : C) : Type 0 where
    pub reached : Any (λ ch. Chosen T ch × (choice_cost ch ≡ c)) chs
    pub lowest : AllByRecursion (λ ch. Chosen T ch → AtMost way c (choice_cost ch)) chs

  -- the least among all its choices
  abbrev pub RuleCost : (ℕ → ℕ) → Rule → C → Type 0
  RuleCost T r c = Least T (choices r) c

  -- c is made of the costs of the rules under T, joined in rule order, beginning with zero
  pub record Costs (T : ℕ → ℕ) (rules : List Rule) (c : C) : Type 0 where
    pub each : List C
    pub priced : Pairwise (RuleCost T) rules each
    pub joined : fold way.join way.zero each ≡ c
