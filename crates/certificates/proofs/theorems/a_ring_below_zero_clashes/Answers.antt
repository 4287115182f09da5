use Rattle.certificates.proofs.Rings.{ring_clashes}
use Rattle.certificates.proofs.theorems.a_ring_below_zero_clashes.Goals as goal

pub returns : goal.returns
returns c = ring_clashes
