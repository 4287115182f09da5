use Rattle.small_books.proofs.Steps.{example_ends}
use Rattle.small_books.proofs.theorems.the_example_takes_six_steps.Goals as goal

pub returns : goal.returns
returns c = example_ends
