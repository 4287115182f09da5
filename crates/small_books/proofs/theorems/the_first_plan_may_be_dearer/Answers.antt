use Rattle.small_books.proofs.Steps.{dearer_first_ends}
use Rattle.small_books.proofs.theorems.the_first_plan_may_be_dearer.Goals as goal

pub returns : goal.returns
returns c = dearer_first_ends
