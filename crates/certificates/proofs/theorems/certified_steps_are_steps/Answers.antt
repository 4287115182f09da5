use Rattle.certificates.proofs.Stepping.{certified}
use Rattle.certificates.proofs.theorems.certified_steps_are_steps.Goals as goal

pub returns : goal.returns
returns g c = certified
