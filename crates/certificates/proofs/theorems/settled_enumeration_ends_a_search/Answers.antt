use Rattle.certificates.proofs.Stepping.{enumeration_ends}
use Rattle.certificates.proofs.theorems.settled_enumeration_ends_a_search.Goals as goal

pub returns : goal.returns
returns c = enumeration_ends
