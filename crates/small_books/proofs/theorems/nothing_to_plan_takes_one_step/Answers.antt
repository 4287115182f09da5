use Rattle.small_books.proofs.Steps.{nothing_to_plan}
use Rattle.small_books.proofs.theorems.nothing_to_plan_takes_one_step.Goals as goal

pub returns : goal.returns
returns c = nothing_to_plan
