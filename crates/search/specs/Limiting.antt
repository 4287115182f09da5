-- The limits that choices put on a timetable.
--   upper_limit, lower_limit   the two limits of an option
--   choice_limits   an option gives two limits, giving up none
--   prefix_limits   those of all choices that a prefix picks, in rule order
--   prefix_net      the network of a prefix
use Rattle.std.specs.Prelude.{ℕ, List, [], ◌∷◌, neg_ℤ}
use Rattle.std.specs.List.{flat_map}
use Rattle.problem.specs.Rules.{Rule}
use Rattle.problem.specs.Timetables.{Choice, option, give_up}
use Rattle.problem.specs.declared.constraint.Disjunct.{Disjunct}
use Rattle.problem.specs.declared.day.Day.{Day}
use Rattle.network.specs.Nets.{Net}
use Rattle.network.specs.declared.limit.Limit.{Limit}
use Rattle.search.specs.Selections.{picked}

-- event x comes at most hi after y
abbrev pub upper_limit : Disjunct → Limit
upper_limit d = record { x = d.x; y = d.y; bound = d.hi }

-- event y comes at most -lo after x
abbrev pub lower_limit : Disjunct → Limit
lower_limit d = record { x = d.y; y = d.x; bound = neg_ℤ d.lo }

-- both bounds of an option
abbrev pub choice_limits : Choice → List Limit
choice_limits (option d) = upper_limit d ∷ (lower_limit d ∷ [])
choice_limits (give_up p) = []

-- the limits of each choice in turn
abbrev pub prefix_limits : List Rule → List ℕ → List Limit
prefix_limits rules prefix = flat_map choice_limits (picked rules prefix)

-- the day, with the limits of the prefix
abbrev pub prefix_net : Day → List Rule → List ℕ → Net
prefix_net day rules prefix = record { day = day; limits = prefix_limits rules prefix }
