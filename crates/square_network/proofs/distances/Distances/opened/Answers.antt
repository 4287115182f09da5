use Rattle.square_network.proofs.Opening.{opened_zeros, opened_triangle, opened_starts, opened_ends}
use Rattle.square_network.proofs.distances.Distances.opened.Goals as goal

pub invariant_of-result : goal.invariant_of-result
invariant_of-result c = record {
  same = opened_zeros c.args.day c.opened_rows.result c.opened_rows.ensures;
  triangle = opened_triangle c.args.day c.opened_rows.result c.opened_rows.ensures;
  first = opened_starts c.args.day c.opened_rows.result c.opened_rows.ensures;
  last = opened_ends c.args.day c.opened_rows.result c.opened_rows.ensures;
}
