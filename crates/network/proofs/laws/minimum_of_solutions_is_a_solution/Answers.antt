use Rattle.network.proofs.Solutions.{minimum_solves}
use Rattle.network.proofs.laws.minimum_of_solutions_is_a_solution.Goals as goal

pub returns : goal.returns
returns c = minimum_solves
