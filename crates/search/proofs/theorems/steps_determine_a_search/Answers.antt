use Rattle.search.proofs.Determined.{after_same}
use Rattle.search.proofs.theorems.steps_determine_a_search.Goals as goal

pub returns : goal.returns
returns g c = after_same
