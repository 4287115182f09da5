use Rattle.network.proofs.Solutions.{shorter_solvable}
use Rattle.network.proofs.laws.a_shorter_list_stays_solvable.Goals as goal

pub returns : goal.returns
returns c = shorter_solvable
