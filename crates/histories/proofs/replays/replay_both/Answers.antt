use Rattle.histories.proofs.Keeping.{made_kept}
use Rattle.histories.proofs.Trusting.{agreeing}
use Rattle.histories.proofs.replays.replay_both.Goals as goal

pub returns-clause-agreeing : goal.returns-clause-agreeing
returns-clause-agreeing g c =
    let way = g.W.Counting.way in
    let a = c.in_ok-first.ensures.history in
    let b = c.in_ok-second.ensures.history in
    agreeing way g.met.W.Counting.lawful _ _ (made_kept way _ _ _ a) (made_kept way _ _ _ b)
