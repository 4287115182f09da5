use Rattle.std.proofs.Common.{take}
use Rattle.fields.specs.Numbers.{Spells}
use Rattle.fields.proofs.number.digits.Given as goal

abbrev pub invariant-loop-byte : goal.invariant-loop-byte
invariant-loop-byte l = Spells (take l.byte-index l.text) l.number
