use Rattle.small_books.proofs.Steps.{free_plan_ends}
use Rattle.small_books.proofs.theorems.a_free_plan_ends_the_search.Goals as goal

pub returns : goal.returns
returns c = free_plan_ends
