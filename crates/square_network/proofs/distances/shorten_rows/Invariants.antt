use Rattle.square_network.proofs.Rows.{RowsDone}
use Rattle.square_network.proofs.distances.shorten_rows.Given as goal

abbrev pub invariant-loop-row : goal.invariant-loop-row
invariant-loop-row l = RowsDone l.day l.fn.rows l.limit l.row-index l.row-items
