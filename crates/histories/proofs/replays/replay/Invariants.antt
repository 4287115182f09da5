use Rattle.std.proofs.Common.{vec_items}
use Rattle.histories.specs.Histories.{Made}
use Rattle.histories.specs.Views.{view_of}
use Rattle.histories.proofs.replays.replay.Given as goal

-- what the calls so far make of a new planner
abbrev pub invariant-loop-call : goal.invariant-loop-call
invariant-loop-call g l = Made g.W.Counting.way l.yielded (view_of l.planner) (vec_items l.answers)
