use Rattle.network.proofs.Solutions.{order_is_free}
use Rattle.network.proofs.laws.order_of_limits_is_free.Goals as goal

pub returns : goal.returns
returns c = order_is_free
