use Rattle.small_books.proofs.Steps.{edge_of_the_day}
use Rattle.small_books.proofs.theorems.an_event_may_come_at_the_horizon.Goals as goal

pub returns : goal.returns
returns c = edge_of_the_day
