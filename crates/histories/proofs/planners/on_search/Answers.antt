use Rattle.std.proofs.Common.{sym, refl}
use Rattle.std.proofs.lemmas.Result.{err_from_is_err_and}
use Rattle.histories.specs.Histories.{Acts, Means}
use Rattle.histories.proofs.Belonging.{beyond_search}
use Rattle.histories.proofs.planners.on_search.Goals as goal

pub returns-in_err-press-in-Press : goal.returns-in_err-press-in-Press
returns-in_err-press-in-Press g c =
    let e = c.in_err-press-in-Press.ensures in
    let p = err_from_is_err_and c.from_residual.result c.from_residual.ensures.1 in
    rw (c.in-Press.is, e.cases, p.1, p.2) (Means.acts _ _ _ _ (Acts.presses_not _ _ _ _ _ (sym e.refused)))

pub returns-in_err-read-in-Read : goal.returns-in_err-read-in-Read
returns-in_err-read-in-Read g c =
    let e = c.in_err-read-in-Read.ensures in
    let p = err_from_is_err_and c.from_residual-in_err-read-in-Read.result c.from_residual-in_err-read-in-Read.ensures.1 in
    rw (c.in-Read.is, p.1, p.2) (Means.acts _ _ _ _ (Acts.reads_not _ _ _ _ _ (sym e.refused)))

pub returns-in_ok-press-in-Press : goal.returns-in_ok-press-in-Press
returns-in_ok-press-in-Press g c =
    let e = c.in_ok-press-in-Press.ensures in
    rw (c.in-Press.is, e.problem) (Means.acts _ _ _ _ (Acts.presses _ _ _ _ _ _ (sym e.refused) e.cases))

pub returns-in-Outcome : goal.returns-in-Outcome
returns-in-Outcome g c = rw c.in-Outcome.is (Means.acts _ _ _ _ (Acts.tells _ _ _ _ c.outcome.ensures))

pub returns-in_ok-read-in-Read : goal.returns-in_ok-read-in-Read
returns-in_ok-read-in-Read g c =
    let e = c.in_ok-read-in-Read.ensures in
    rw c.in-Read.is (Means.acts _ _ _ _ (Acts.reads _ _ _ _ _ (sym e.refused) e.minute))

pub returns-in_default : goal.returns-in_default
returns-in_default g c =
    let h = beyond_search _ c.in_default.not-Press c.in_default.not-Outcome c.in_default.not-Read c.requires in
    Means.misplaced _ _ (rw h refl)
