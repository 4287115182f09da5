use Rattle.std.proofs.Common.{rules}
use Rattle.fields.proofs.Canonical.{not_empty, not_long, no_leading_zero, writes_read}
use Rattle.fields.proofs.number.natural.Goals as goal

pub returns-in-empty : goal.returns-in-empty
returns-in-empty c = not_empty c.args.field.now (search rules)

pub returns-in-48 : goal.returns-in-48
returns-in-48 c = no_leading_zero c.args.field.now (search rules) (search rules)

pub returns-in_default : goal.returns-in_default
returns-in_default c = not_long c.args.field.now (search rules)

pub returns-in_default-2 : goal.returns-in_default-2
returns-in_default-2 c = writes_read c.args.field.now c.digits.result (search rules) (search rules) (λ zero-first. search rules) c.digits.ensures
