-- What follows from the meaning of a network.
--   MinimumSolves     the minimum of two solutions is a solution
--   SmallestSolve     the smallest minutes together are a solution
--   OrderIsFree      the order of the limits does not matter
--   ShorterSolvable   what solves a list solves a shorter one
use Rattle.std.specs.Prelude.{ℕ, ◌<◌, min, List, ◌++◌}
use Rattle.std.specs.List.Sorted.{IsPermutation}
use Rattle.std.specs.List.{AllByRecursion}
use Rattle.problem.specs.declared.day.Day.{Day}
use Rattle.network.specs.Limits.{Lawful}
use Rattle.network.specs.Nets.{Net, Solves, Earliest}
use Rattle.network.specs.declared.limit.Limit.{Limit}

-- for each event the earlier of two minutes
abbrev pub MinimumSolves : Type 0
MinimumSolves = (m : Net) (T U : ℕ → ℕ) → Solves m T → Solves m U → Solves m (λ i. min (T i) (U i))

-- where S gives each event its smallest minute, S is a solution itself
abbrev pub SmallestSolve : Type 0
SmallestSolve =
    (m : Net) (S : ℕ → ℕ) → AllByRecursion (Lawful m.day) m.limits → ((i : ℕ) → i < m.day.events → Earliest m i (S i)) → Solves m S

-- the same limits, each as often, have the same solutions
abbrev pub OrderIsFree : Type 0
OrderIsFree =
    (day : Day) (ls ks : List Limit) (T : ℕ → ℕ) → IsPermutation ls ks → Solves (record { day = day; limits = ls }) T
    → Solves (record { day = day; limits = ks }) T

-- a solution stays one when limits at the end are taken off
abbrev pub ShorterSolvable : Type 0
ShorterSolvable =
    (day : Day) (ls ks : List Limit) (T : ℕ → ℕ) → Solves (record { day = day; limits = ls ++ ks }) T
    → Solves (record { day = day; limits = ls }) T
