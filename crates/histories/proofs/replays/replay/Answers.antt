use Rattle.std.proofs.Common.{rules}
use Rattle.histories.specs.Histories.{Means, Made}
use Rattle.histories.specs.Views.{view_of}
use Rattle.histories.proofs.Keeping.{made_kept}
use Rattle.histories.proofs.Trusting.{trusted}
use Rattle.histories.proofs.replays.replay.Goals as goal

pub loop-call-init : goal.loop-call-init
loop-call-init g c =
    let fresh = c.in_ok-new.ensures in
    rw (fresh.rules_are, c.new-answers.ensures.items) (Made.nothing _ fresh.events_are fresh.horizon_is)

pub loop-call-preserved-in_ok-push-in-Ok : goal.loop-call-preserved-in_ok-push-in-Ok
loop-call-preserved-in_ok-push-in-Ok g c = rw c.in_ok-push-in-Ok.ensures.items (Made.more _ _ _ _ _ _ c.loop-call.invariant c.in-Ok.ensures)

pub loop-call-preserved : goal.loop-call-preserved
loop-call-preserved g c =
    let step : Means g.W.Counting.way c.in-Some.call (view_of c.loop-call.planner) (view_of c.apply-next.result.0) c.apply-next.result.1 = search rules in
    rw c.in_ok-push-in-Err.ensures.items (Made.more _ _ _ _ _ _ c.loop-call.invariant step)

pub returns-clause-trusted : goal.returns-clause-trusted
returns-clause-trusted g c = trusted g.W.Counting.way g.met.W.Counting.lawful _ (made_kept g.W.Counting.way _ _ _ c.loop-call.invariant)
