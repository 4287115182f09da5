use Rattle.small_books.proofs.Steps.{ring_of_gaps}
use Rattle.small_books.proofs.theorems.a_ring_of_gaps_allows_nothing.Goals as goal

pub returns : goal.returns
returns c = ring_of_gaps
