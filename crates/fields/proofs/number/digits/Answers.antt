use Rattle.std.proofs.Common.{sym, ◌∙◌, arith}
use Rattle.fields.proofs.Canonical.{not_a_digit, front_small, one_more, no_more}
use Rattle.fields.proofs.number.digits.Goals as goal

pub returns-then-not-is_ascii_digit : goal.returns-then-not-is_ascii_digit
returns-then-not-is_ascii_digit c = not_a_digit c.args.text.now c.loop-byte.byte-index c.loop-byte-test.true (sym c.is_ascii_digit.ensures.value ∙ c.if-not-is_ascii_digit.true)

pub overflow_mul-number : goal.overflow_mul-number
overflow_mul-number c = omega (arith, front_small c.args.text.now c.loop-byte.byte-index c.loop-byte.number c.loop-byte-test.true c.requires c.loop-byte.invariant)

pub overflow_add-number : goal.overflow_add-number
overflow_add-number c = omega (arith, front_small c.args.text.now c.loop-byte.byte-index c.loop-byte.number c.loop-byte-test.true c.requires c.loop-byte.invariant)

pub loop-byte-preserved : goal.loop-byte-preserved
loop-byte-preserved c = one_more c.args.text.now c.loop-byte.byte-index _ _ c.loop-byte-test.true (sym c.is_ascii_digit.ensures.value ∙ c.if-not-is_ascii_digit.false) c.from.ensures c.loop-byte.invariant

pub returns : goal.returns
returns c = no_more c.args.text.now c.loop-byte.byte-index _ c.loop-byte-test.false c.loop-byte.invariant
