use Rattle.search.proofs.Count.{bound}
use Rattle.search.proofs.Progress.{next, ends}
use Rattle.search.proofs.theorems.a_search_ends_within_its_selections.Goals as goal

pub returns : goal.returns
returns g c = λ way day rules fit. record {
  bound = bound way day rules;
  next = next way day rules fit;
  end = ends way day rules fit;
}
