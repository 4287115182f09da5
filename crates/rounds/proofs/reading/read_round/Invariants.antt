use Rattle.std.proofs.Common.{◌≡◌, length, vec_items}
use Rattle.fields.specs.Fields.{left}
use Rattle.rounds.proofs.Loop.{Sofar}
use Rattle.rounds.proofs.reading.read_round.Given as goal

-- the minutes were read from the first fields, and the events are counted by them
abbrev pub invariant-loop-event : goal.invariant-loop-event
invariant-loop-event l =
    Sofar l.line (vec_items l.minutes) (left l.event-iterator.iter) × (l.event-iterator.count ≡ length (vec_items l.minutes))
