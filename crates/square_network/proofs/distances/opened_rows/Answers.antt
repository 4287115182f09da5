use Rattle.std.proofs.Common.{to_z, w16, arith, rules}
use Rattle.std.proofs.lemmas.Int.{ints}
use Rattle.square_network.proofs.Opening.{opened_none, opened_more}
use Rattle.square_network.proofs.distances.opened_rows.Goals as goal

pub loop-i-init : goal.loop-i-init
loop-i-init c = opened_none c.args.day (to_z w16 c.horizon.result) (omega (arith, ints, c.args.day.week)) _ (search rules)

pub loop-i-preserved : goal.loop-i-preserved
loop-i-preserved c = opened_more c.args.day c.loop-i.i c.loop-i.row-items c.loop-i.invariant (omega arith)

pub returns : goal.returns
returns c i j row column = c.loop-i.invariant.done i j (omega (arith, c.args.day.few)) column
