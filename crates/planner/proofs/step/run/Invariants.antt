use Rattle.problem.specs.Problems.{rules_of}
use Rattle.search.specs.Searches.{Steps}
use Rattle.planner.specs.Facts.{state_of}
use Rattle.planner.specs.Stepping.{Ready}
use Rattle.planner.proofs.step.run.Given as goal

-- so many steps were made, and the next can be
abbrev pub invariant-loop-made : goal.invariant-loop-made
invariant-loop-made g l =
    let way = g.W.Counting.way in
    record {
      steps : Steps way l.problem.day (rules_of l.problem) (state_of l.initial.progress) l.made (state_of l.progress);
      ready : Ready way l.problem.day (rules_of l.problem) l.progress l.cursor.best l.cursor.depth (g.N.Network.net l.cursor.network.now);
    }
