use Rattle.small_books.proofs.Steps.{two_against_one_ends}
use Rattle.small_books.proofs.theorems.sum_and_worst_give_up_different_wishes.Goals as goal

pub returns : goal.returns
returns c = two_against_one_ends
