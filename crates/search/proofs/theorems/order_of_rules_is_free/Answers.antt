use Rattle.search.proofs.Reordered.{costs_same, agree}
use Rattle.search.proofs.theorems.order_of_rules_is_free.Goals as goal

pub returns : goal.returns
returns g c = λ way laws day rules rules' p. record {
  costs = λ T. costs_same way laws T rules rules' p;
  ends = agree way laws day rules rules' p;
}
