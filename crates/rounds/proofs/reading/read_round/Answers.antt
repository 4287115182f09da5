use Rattle.std.proofs.Common.{◌≡◌, ◌^◌, ◌<◌, length, vec_items, inl, arith, rules}
use Rattle.fields.specs.Fields.{parts, left}
use Rattle.rounds.specs.Round.{FirstFault}
use Rattle.rounds.proofs.Loop.{few_parts, none_read}
use Rattle.rounds.proofs.reading.read_round.Goals as goal

pub loop-event-init-derived : goal.loop-event-init-derived
loop-event-init-derived c =
    let few : length (parts c.args.line.now) < 2 ^ 64 = few_parts c.args.line.now (omega arith) in
    let start : c.into_iter-event-iterator.result.count ≡ 0 = cc in
    let all : left c.into_iter-event-iterator.result.iter ≡ parts c.args.line.now = cc in
    ((tt, tt, inl (rw all (omega arith))), tt)

pub returns-in-Err : goal.returns-in-Err
returns-in-Err c =
    let steps = c.in-Some.ensures.steps in
    let count : c.in-Some.event ≡ length (vec_items c.loop-event.minutes) = cc in
    let fault : FirstFault c.args.line.now c.in-Some.event = none_read c.loop-event.invariant.0 steps.0 c.in-Err.ensures count in
    search (rules, fault)
