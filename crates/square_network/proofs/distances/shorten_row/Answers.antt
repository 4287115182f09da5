use Rattle.std.proofs.Common.{arith}
use Rattle.std.proofs.lemmas.Int.{ints}
use Rattle.network.proofs.Taken.{lawful_y}
use Rattle.square_network.proofs.Within.{to_limit_range, row_stands, row_written}
use Rattle.square_network.proofs.distances.shorten_row.Goals as goal

pub overflow_cast-to_limit-then-to_limit-row : goal.overflow_cast-to_limit-then-to_limit-row
overflow_cast-to_limit-then-to_limit-row c =
    let range = to_limit_range c.args.day c.args.row.now c.args.beyond.now c.args.limit c.requires.near c.requires.beyond_near c.requires.lawful in
    omega (arith, ints)

pub returns-then-to_limit-row : goal.returns-then-to_limit-row
returns-then-to_limit-row c =
    let range = to_limit_range c.args.day c.args.row.now c.args.beyond.now c.args.limit c.requires.near c.requires.beyond_near c.requires.lawful in
    row_written c.args.day c.args.row.now c.args.beyond.now c.args.limit c.requires.near c.requires.beyond_near c.requires.lawful _ _
    (omega (arith, ints)) c.shorter_row.ensures

pub returns-else-to_limit-row : goal.returns-else-to_limit-row
returns-else-to_limit-row c =
    let range = to_limit_range c.args.day c.args.row.now c.args.beyond.now c.args.limit c.requires.near c.requires.beyond_near c.requires.lawful in
    let at_y = c.requires.near c.args.limit.y (lawful_y c.args.day c.args.limit c.requires.lawful) in
    row_stands c.args.day c.args.row.now c.args.beyond.now c.args.limit c.requires.near c.requires.beyond_near c.requires.lawful c.requires.onward
    (omega (arith, ints))
