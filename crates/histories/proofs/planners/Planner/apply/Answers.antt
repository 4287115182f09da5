use Rattle.histories.specs.Histories.{Acts, Means}
use Rattle.histories.proofs.planners.Planner.apply.Goals as goal

pub returns-in-Draft-Close : goal.returns-in-Draft-Close
returns-in-Draft-Close g c =
    let e = c.close.ensures in
    rw (c.in-Draft-Close.is-0, c.in-Draft-Close.is-1, ← e.problem) (Means.acts _ _ _ _ (Acts.closes _ _ _ e.start))

pub returns-in-Search-Reopen : goal.returns-in-Search-Reopen
returns-in-Search-Reopen g c = rw (c.in-Search-Reopen.is-0, c.in-Search-Reopen.is-1, c.reopen.ensures) (Means.acts _ _ _ _ (Acts.reopens _ _ _))
