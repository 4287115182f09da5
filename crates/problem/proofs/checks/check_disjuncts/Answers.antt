use Rattle.std.proofs.Common.{sym, ◌∙◌}
use Rattle.std.proofs.lemmas.Result.{err_from_is_err_and}
use Rattle.problem.specs.Checks.{disjunct_checks}
use Rattle.problem.proofs.First.{past_end, first_passed, first_failed}
use Rattle.problem.proofs.checks.check_disjuncts.Goals as goal

pub loop-disjunct-preserved : goal.loop-disjunct-preserved
loop-disjunct-preserved c =
    c.loop-disjunct.invariant
    ∙ first_passed (disjunct_checks c.args.day) c.args.disjuncts.now c.loop-disjunct.disjunct-index past_end c.loop-disjunct-test.true c.in_ok-check_disjunct.ensures

pub returns-in_err-check_disjunct : goal.returns-in_err-check_disjunct
returns-in_err-check_disjunct c =
    let p = err_from_is_err_and c.from_residual.result c.from_residual.ensures.1 in
    rw (p.1, p.2)
    (first_failed (disjunct_checks c.args.day) c.args.disjuncts.now c.loop-disjunct.disjunct-index past_end c.loop-disjunct-test.true _ c.in_err-check_disjunct.ensures
    ∙ sym c.loop-disjunct.invariant)
