use Rattle.std.proofs.Common.{rules, ◌≡◌}
use Rattle.problem.specs.Timetables.{gap}
use Rattle.costing.specs.Cheapest.{gives}
use Rattle.costing.proofs.least.meets.Goals as goal

pub returns : goal.returns
returns c =
    let d = c.args.disjunct.now in
    let e : c.gap_of-gap.result ≡ gap (gives c.args.timetable.now) d.x d.y = c.gap_of-gap.ensures in
    rw (← e) (search rules)
