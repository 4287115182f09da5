use Rattle.std.proofs.Common.{◌≤◌, length, Some, None, ap, ◌∙◌, subst, arith}
use Rattle.arrayvec.proofs.ArrayVecLemmas.{items-with_items}
use Rattle.problem.specs.Problems.{rules_of}
use Rattle.planner.specs.Advancing.{Raisable, raised}
use Rattle.planner.specs.Choosing.{width_at}
use Rattle.planner.specs.Loading.{Loaded}
use Rattle.planner.proofs.Fitting.{fit_some, fit_width}
use Rattle.planner.proofs.Raising.{advanced_raised, advanced_ended, raised_loaded}
use Rattle.planner.proofs.cursor.Cursor.turn.Goals as goal

pub returns-in_err-i-clause-advanced : goal.returns-in_err-i-clause-advanced
returns-in_err-i-clause-advanced g c =
    let p = c.args.problem.now in
    let none : Raisable (rules_of p) c.args.position.items c.args.shared None = subst (λ ns. Raisable (rules_of p) ns c.args.shared None) c.deref.ensures.0 c.in_err-i.ensures in
    rw c.from_residual.ensures (advanced_ended (rules_of p) (fit_some p.day (rules_of p) p.fit) c.args.position.items c.requires.placed c.args.shared c.requires.within none)

pub raise-requires-clause-small : goal.raise-requires-clause-small
raise-requires-clause-small g c =
    let p = c.args.problem.now in
    let i = c.in_ok-i.i in
    let w : width_at (rules_of p) i ≤ 9 = fit_width p.day (rules_of p) i p.fit in
    let found : Raisable (rules_of p) c.args.position.items c.args.shared (Some i) = subst (λ ns. Raisable (rules_of p) ns c.args.shared (Some i)) c.deref.ensures.0 c.in_ok-i.ensures in
    rw c.deref_mut.ensures.value (let least = found.1 in omega arith)

pub returns-clause-advanced : goal.returns-clause-advanced
returns-clause-advanced g c =
    let p = c.args.problem.now in
    let i = c.in_ok-i.i in
    let found : Raisable (rules_of p) c.args.position.items c.args.shared (Some i) = subst (λ ns. Raisable (rules_of p) ns c.args.shared (Some i)) c.deref.ensures.0 c.in_ok-i.ensures in
    let next = items-with_items c.args.position c.raise.new.choices (c.raise.auto.choices ∙ ap length c.deref_mut.ensures.value) ∙ c.raise.ensures ∙ ap (raised i) c.deref_mut.ensures.value in
    advanced_raised (rules_of p) (fit_some p.day (rules_of p) p.fit) c.args.position.items c.requires.placed c.args.shared c.requires.within i _ next found

pub returns-clause-loaded : goal.returns-clause-loaded
returns-clause-loaded g c =
    let p = c.args.problem.now in
    let next = items-with_items c.args.position c.raise.new.choices (c.raise.auto.choices ∙ ap length c.deref_mut.ensures.value) ∙ c.raise.ensures ∙ ap (raised c.in_ok-i.i) c.deref_mut.ensures.value in
    let stands = subst (λ ns. Loaded p.day (rules_of p) ns c.unload.new.self.depth (g.N.Network.net c.unload.new.self.network.now)) c.deref.ensures.0 c.unload.ensures.stands in
    raised_loaded p.day (rules_of p) c.args.position.items c.in_ok-i.i _ next c.unload.new.self.depth _ (omega (arith, c.unload.ensures.depth)) stands
