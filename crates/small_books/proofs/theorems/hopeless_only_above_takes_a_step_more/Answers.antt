use Rattle.small_books.proofs.Astray.{above_takes_three}
use Rattle.small_books.proofs.theorems.hopeless_only_above_takes_a_step_more.Goals as goal

pub returns : goal.returns
returns c = above_takes_three
