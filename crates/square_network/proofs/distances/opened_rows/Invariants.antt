use Rattle.square_network.proofs.Opening.{RowsOpened}
use Rattle.square_network.proofs.distances.opened_rows.Given as goal

abbrev pub invariant-loop-i : goal.invariant-loop-i
invariant-loop-i l = RowsOpened l.fn.day l.i l.row-items
