use Rattle.search.proofs.Ranks.{ranked}
use Rattle.search.proofs.Sound.{no_cheaper}
use Rattle.search.proofs.theorems.settled_selections_are_no_cheaper.Goals as goal

pub returns : goal.returns
returns g c = λ way laws. no_cheaper way (ranked way laws)
