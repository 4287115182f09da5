use Rattle.network.proofs.Solutions.{smallest_solve}
use Rattle.network.proofs.laws.smallest_minutes_solve_together.Goals as goal

pub returns : goal.returns
returns c = smallest_solve
