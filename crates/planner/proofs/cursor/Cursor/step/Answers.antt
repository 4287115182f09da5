use Rattle.std.proofs.Common.{◌≡◌, Some, None, refl, sym, ◌∙◌, subst, rules}
use Rattle.problem.specs.Problems.{rules_of}
use Rattle.planner.specs.Advancing.{Advanced}
use Rattle.planner.specs.Facts.{state_of}
use Rattle.planner.specs.Loading.{Loaded}
use Rattle.planner.specs.Probing.{Probed}
use Rattle.planner.proofs.Stepping.{skip_step, keep_step}
use Rattle.planner.proofs.cursor.Cursor.step.Goals as goal

pub probe-requires : goal.probe-requires
probe-requires g c =
    let p = c.args.problem.now in
    record { stands = subst (λ ns. Loaded p.day (rules_of p) ns c.args.self.now.depth (g.N.Network.net c.args.self.now.network.now)) (sym c.deref.ensures.0) (c.requires.loaded c.args.position refl) }

pub returns-in-Some-clause-step : goal.returns-in-Some-clause-step
returns-in-Some-clause-step g c =
    let p = c.args.problem.now in
    let way = g.W.Counting.way in
    let best = c.args.self.now.best in
    let probed = subst (λ ns. Probed way p.day (rules_of p) best ns (Some c.in-Some.hopeless)) c.deref.ensures.0 c.in-Some.ensures.probed in
    skip_step way p.day (rules_of p) (state_of (record { position = Some c.args.position; plan = c.args.plan.now })) best c.requires.price_is c.args.position.items (c.requires.sound.placed c.args.position refl) (λ ms. refl)
    (state_of (record { position = c.turn.result; plan = c.args.plan.now })) c.in-Some.hopeless probed c.turn.ensures.advanced.passes refl

pub returns-in-None-clause-step : goal.returns-in-None-clause-step
returns-in-None-clause-step g c =
    let p = c.args.problem.now in
    let way = g.W.Counting.way in
    let best = c.args.self.now.best in
    let probed = subst (λ ns. Probed way p.day (rules_of p) best ns None) c.deref.ensures.0 c.in-None.ensures.probed in
    let kept : c.plan.result.choices.items ≡ c.args.position.items = c.plan.ensures.choices ∙ c.deref.ensures.0 in
    let advanced : Advanced (rules_of p) c.args.position.items c.len-whole.result c.turn-in-None.result = search (rules, c.turn-in-None.ensures.advanced) in
    keep_step way p.day (rules_of p) (state_of (record { position = Some c.args.position; plan = c.args.plan.now })) best c.requires.price_is c.args.position.items (c.requires.sound.placed c.args.position refl) (λ ms. refl)
    _ probed c.len-whole.result advanced.passes c.len-whole.ensures.value (cc)
