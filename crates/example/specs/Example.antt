-- The example's rules.
--   points_alone    a penalty without breaches
--   gap             an option without breaches
--   stated          a rule
--   wish_for        a wish without breaches
--   example_rules   the rules of the example, in order
use Rattle.std.specs.Prelude.{ℕ, List, [], ◌∷◌, ℤ, pos}
use Rattle.counting.specs.declared.penalty.Penalty.{Penalty}
use Rattle.problem.specs.Rules.{Rule}
use Rattle.problem.specs.declared.constraint.Disjunct.{Disjunct}
use Rattle.problem.specs.declared.constraint.Kind.{Kind}
use Rattle.problem.specs.declared.constraint.Kind.TheVariants.{Firm, Wish}

-- p points
abbrev pub points_alone : ℕ → Penalty
points_alone p = record { breaches = 0; points = p }

-- event x comes lo to hi minutes after event y, for p points
abbrev pub gap : ℕ → ℕ → ℤ → ℤ → ℕ → Disjunct
gap x y lo hi p = record { x = x; y = y; lo = lo; hi = hi; penalty = points_alone p }

-- a rule of this kind with these options
abbrev pub stated : Kind → List Disjunct → Rule
stated k ds = record { kind = k; options = ds }

-- a wish that costs p points to give up
abbrev pub wish_for : ℕ → Kind
wish_for p = Wish (points_alone p)

-- events 1 and 2 are 15 to 60 minutes apart
abbrev pub apart : Rule
apart = stated Firm (gap 1 2 (pos 15) (pos 60) 0 ∷ (gap 2 1 (pos 15) (pos 60) 0 ∷ []))

-- event 2 comes within 10 minutes of the start
abbrev pub second_soon : Rule
second_soon = stated (wish_for 40) (gap 2 0 (pos 0) (pos 10) 0 ∷ [])

-- event 1 comes within 5 minutes of the start, or at 6 to 20 minutes for 10 points
abbrev pub first_soon : Rule
first_soon = stated (wish_for 30) (gap 1 0 (pos 0) (pos 5) 0 ∷ (gap 1 0 (pos 6) (pos 20) 10 ∷ []))

-- in the order in which the problem has them
abbrev pub example_rules : List Rule
example_rules = apart ∷ (second_soon ∷ (first_soon ∷ []))
