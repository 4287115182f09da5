use Rattle.certificates.proofs.Chains.{chains_smallest}
use Rattle.certificates.proofs.theorems.chains_show_the_smallest_minutes.Goals as goal

pub returns : goal.returns
returns c = chains_smallest
