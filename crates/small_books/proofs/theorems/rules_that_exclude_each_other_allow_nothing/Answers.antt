use Rattle.small_books.proofs.Steps.{excluding_rules}
use Rattle.small_books.proofs.theorems.rules_that_exclude_each_other_allow_nothing.Goals as goal

pub returns : goal.returns
returns c = excluding_rules
