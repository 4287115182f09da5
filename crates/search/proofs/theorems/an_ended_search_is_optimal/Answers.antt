use Rattle.search.proofs.Optimal.{verdict}
use Rattle.search.proofs.theorems.an_ended_search_is_optimal.Goals as goal

pub returns : goal.returns
returns g c = verdict
