use Rattle.std.proofs.Common.{◌≡◌, ◌<◌, length, get_or, subst, arith, rules}
use Rattle.std.proofs.lemmas.Result.{err_from_is_err_and}
use Rattle.std.proofs.lemmas.Int.{ints}
use Rattle.fields.specs.Numbers.{Writes}
use Rattle.fields.proofs.Signs.{minus_none, minus_zero, minus_some}
use Rattle.fields.proofs.number.integer.Goals as goal

pub returns-in_err-n-in-45 : goal.returns-in_err-n-in-45
returns-in_err-n-in-45 c =
    let bs = c.args.field.now in
    let minus : get_or bs 0 0 ≡ 45 = search rules in
    let some : 0 < length bs = search rules in
    let p = err_from_is_err_and c.from_residual.result c.from_residual.ensures.1 in
    rw p.1 (minus_none bs some minus c.in_err-n-in-45.ensures)

pub returns-in-0 : goal.returns-in-0
returns-in-0 c =
    let bs = c.args.field.now in
    let minus : get_or bs 0 0 ≡ 45 = search rules in
    let some : 0 < length bs = search rules in
    minus_zero bs some minus (subst (Writes _) c.in-0.is c.in_ok-n-in-45.ensures)

pub returns-in_default-2 : goal.returns-in_default-2
returns-in_default-2 c =
    let bs = c.args.field.now in
    let minus : get_or bs 0 0 ≡ 45 = search rules in
    let some : 0 < length bs = search rules in
    let written = c.in_ok-n-in-45.ensures in
    minus_some bs some minus c.in_ok-n-in-45.n (search rules) written _ (omega (arith, ints, written.short))
