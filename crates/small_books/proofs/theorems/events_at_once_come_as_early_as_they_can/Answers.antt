use Rattle.small_books.proofs.Steps.{events_at_once}
use Rattle.small_books.proofs.theorems.events_at_once_come_as_early_as_they_can.Goals as goal

pub returns : goal.returns
returns c = events_at_once
