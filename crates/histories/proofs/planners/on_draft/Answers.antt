use Rattle.std.proofs.Common.{◌≡◌, sym, ap}
use Rattle.std.proofs.lemmas.Result.{err_from_is_err_and}
use Rattle.histories.specs.Histories.{Acts, Means}
use Rattle.histories.proofs.Belonging.{beyond_draft}
use Rattle.histories.proofs.planners.on_draft.Goals as goal
use Rattle.histories.proofs.planners.on_draft.Goals.{in-Set+in_ok-set-in-Set, in-Adopt+in_ok-adopt-in-Adopt, in-Drop+in_ok-drop-in-Drop}

pub returns-in_err-set-in-Set : goal.returns-in_err-set-in-Set
returns-in_err-set-in-Set g c =
    let e = c.in_err-set-in-Set.ensures in
    let p = err_from_is_err_and c.from_residual.result c.from_residual.ensures.1 in
    rw (c.in-Set.is, e.cases, p.1, p.2) (Means.acts _ _ _ _ (Acts.sets_not _ _ _ _ _ (sym e.refused)))

pub returns-in_err-adopt-in-Adopt : goal.returns-in_err-adopt-in-Adopt
returns-in_err-adopt-in-Adopt g c =
    let e = c.in_err-adopt-in-Adopt.ensures in
    let p = err_from_is_err_and c.from_residual-in_err-adopt-in-Adopt.result c.from_residual-in_err-adopt-in-Adopt.ensures.1 in
    let u = c.in_err-adopt-in-Adopt.field-0.0 in
    let back : u ≡ record { refusal = u.refusal; rule = c.in-Adopt.rule } = ap (λ r. record { refusal = u.refusal; rule = r }) e.cases.0 in
    rw (c.in-Adopt.is, e.cases.1, p.1, p.2, back) (Means.acts _ _ _ _ (Acts.returns _ _ _ _ (sym e.refused)))

pub returns-in_err-drop-in-Drop : goal.returns-in_err-drop-in-Drop
returns-in_err-drop-in-Drop g c =
    let e = c.in_err-drop-in-Drop.ensures in
    let p = err_from_is_err_and c.from_residual-in_err-drop-in-Drop.result c.from_residual-in_err-drop-in-Drop.ensures.1 in
    rw (c.in-Drop.is, e.cases, p.1, p.2) (Means.acts _ _ _ _ (Acts.drops_not _ _ _ _ (sym e.refused)))

pub returns-in_default : goal.returns-in_default
returns-in_default g c =
    Means.misplaced _ _ (beyond_draft _ c.in_default.not-Set c.in_default.not-Adopt c.in_default.not-Drop c.requires)

pub returns : goal.returns
returns g c =
    elim c.match-call.branch [
      | in-Set+in_ok-set-in-Set w ↦ (let e = w.in_ok-set-in-Set.ensures in
          rw (w.in-Set.is, w.draft-is, e.cases.rules_are) (Means.acts _ _ _ _ (Acts.sets _ _ _ _ _ (sym e.refused) e.cases.events_are e.cases.horizon_is)))
      | in-Adopt+in_ok-adopt-in-Adopt w ↦ (let e = w.in_ok-adopt-in-Adopt.ensures in
          rw (w.in-Adopt.is, w.draft-is, e.day, e.cases) (Means.acts _ _ _ _ (Acts.adopts _ _ _ (sym e.refused))))
      | in-Drop+in_ok-drop-in-Drop w ↦ (let e = w.in_ok-drop-in-Drop.ensures in
          rw (w.in-Drop.is, w.draft-is, e.day, e.cases) (Means.acts _ _ _ _ (Acts.drops _ _ _ (sym e.refused))))
    ]
