use Rattle.small_books.proofs.Steps.{breach_or_points_ends}
use Rattle.small_books.proofs.theorems.a_breach_outweighs_points_only_by_tier.Goals as goal

pub returns : goal.returns
returns c = breach_or_points_ends
