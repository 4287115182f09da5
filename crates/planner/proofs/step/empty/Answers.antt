use Rattle.planner.proofs.Starting.{reset_empty}
use Rattle.planner.proofs.step.empty.Goals as goal

pub returns : goal.returns
returns g c = reset_empty c.args.day c.events.result c.horizon.result _ _ c.reset.result c.unwrap.result c.unwrap.ensures c.events.ensures c.horizon.ensures c.reset.ensures.cases
