use Rattle.std.proofs.Common.{map, take}
use Rattle.problem.specs.Costs.{Costs}
use Rattle.problem.specs.Rules.{rule_of}
use Rattle.problem.specs.Timetables.{minute}
use Rattle.costing.proofs.cost.cost_of.Given as goal

-- what the rules so far cost together
abbrev pub invariant-loop-number : goal.invariant-loop-number
invariant-loop-number g l = Costs g.W.Counting.way (minute l.minutes) (map rule_of (take l.number l.rule-items)) l.total
