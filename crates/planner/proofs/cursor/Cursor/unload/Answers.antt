use Rattle.std.proofs.Common.{◌+◌, ◌-◌, arith}
use Rattle.planner.specs.Choosing.{rules_in}
use Rattle.planner.proofs.Choosing.{selects_length}
use Rattle.planner.proofs.Loadings.{loaded_at}
use Rattle.planner.proofs.cursor.Cursor.unload.Goals as goal

pub take_off-requires-clause-more : goal.take_off-requires-clause-more
take_off-requires-clause-more g c =
    let s = c.args.selection in
    let n = selects_length (rules_in s) s.choices.now s.selected in
    let within = c.loop-i.invariant.stands.within in
    omega arith

pub take_off-requires-clause-stands : goal.take_off-requires-clause-stands
take_off-requires-clause-stands g c =
    let s = c.args.selection in
    let i = c.loop-i.i - 1 in
    loaded_at s.problem.now.day (rules_in s) s.choices.now c.loop-i.i (i + 1) _ (omega arith) c.loop-i.invariant.stands
