-- What the functions below `cost_of` look for.
--   gives        the minute that a timetable gives each event
--   in_bounds    whether it meets an option
--   lesser       the lesser of two costs, the first where they rank alike
--   met_costs    the costs of the options that a timetable meets
--   least_cost   the least of costs
--   Unmet        a timetable meets none of some choices
--   Cheapest     the least cost among the choices that a timetable meets, if it meets any
use Rattle.std.specs.Prelude.{ℕ, Bool, cond, ◌&&◌, List, map, fold, Some, None, Option, int_le}
use Rattle.std.specs.List.{AllByRecursion, filter}
use Rattle.counting.specs.Ways.{Way}
use Rattle.problem.specs.Costs.{Least}
use Rattle.problem.specs.Timetables.{minute, gap, Choice, Chosen}
use Rattle.problem.specs.declared.constraint.Disjunct.{Disjunct}
use Rattle.problem.specs.declared.timetable.Timetable.{Timetable}

-- the minutes in the order of the events
abbrev pub gives : Timetable → ℕ → ℕ
gives t = minute t.minutes.now

-- as `Meets`
abbrev pub in_bounds : (ℕ → ℕ) → Disjunct → Bool
in_bounds T d = int_le d.lo (gap T d.x d.y) && int_le (gap T d.x d.y) d.hi

-- T meets none of them
abbrev pub Unmet : (ℕ → ℕ) → List Choice → Type 0
Unmet T chs = AllByRecursion (λ ch. Chosen T ch → ⊥) chs

module _ {C : Type 0} (way : Way C) where
  -- the first, unless the second is lower
  abbrev pub lesser : Option C → C → C
  lesser None c = c
  lesser (Some b) c = cond (way.atmost b c) b c

  -- the costs of the options that T meets, in order
  abbrev pub met_costs : (ℕ → ℕ) → List Disjunct → List C
  met_costs T ds = map (λ d. way.reading d.penalty) (filter (in_bounds T) ds)

  -- the least of costs, one after another, beginning with what is kept
  abbrev pub least_cost : Option C → List C → Option C
  least_cost kept cs = fold (λ least c. Some (lesser least c)) kept cs

  -- none is met, or c is the least
  abbrev pub Cheapest : (ℕ → ℕ) → List Choice → Option C → Type 0
  Cheapest T chs None = Unmet T chs
  Cheapest T chs (Some c) = Least way T chs c
