-- What a network has loaded of a selection.
--   Loaded    the network has just the limits of the first choices
--   Stands    the same of a selection of the program
--   with_limits   a network with more limits
--   Put       limits are put on together, or cannot be met
--   Without   a network keeps only some limits
use Rattle.std.specs.Prelude.{◌≡◌, ℕ, ◌≤◌, List, ◌++◌, length, take, Ok, Err, Result}
use Rattle.problem.specs.Rules.{Rule}
use Rattle.problem.specs.declared.day.Day.{Day}
use Rattle.problem.specs.declared.refusal.Refusal.{Refusal}
use Rattle.network.specs.Nets.{Net, Unsolvable}
use Rattle.network.specs.declared.limit.Limit.{Limit}
use Rattle.search.specs.Limiting.{prefix_net}
use Rattle.planner.specs.Choosing.{rules_in}
use Rattle.planner.specs.declared.selection.Selection.{Selection}

-- those of the first `depth` choices
pub record Loaded (day : Day) (rules : List Rule) (ns : List ℕ) (depth : ℕ) (m : Net) : Type 0 where
  pub within : depth ≤ length rules
  pub loads : m ≡ prefix_net day rules (take depth ns)

-- on the day of its problem
abbrev pub Stands : Selection → ℕ → Net → Type 0
Stands s depth m = Loaded s.problem.now.day (rules_in s) s.choices.now depth m

-- the limits come last
abbrev pub with_limits : Net → List Limit → Net
with_limits m ls = record { day = m.day; limits = m.limits ++ ls }

-- from m to m'
abbrev pub Put : Net → List Limit → Result Unit Refusal → Net → Type 0
Put m ls (Ok _) m' = m' ≡ with_limits m ls
Put m ls (Err _) m' = Unsolvable (with_limits m ls) × (m' ≡ m)

-- the same day, and only these limits
abbrev pub Without : Net → List Limit → Net → Type 0
Without m ls m' = m' ≡ record { day = m.day; limits = ls }
