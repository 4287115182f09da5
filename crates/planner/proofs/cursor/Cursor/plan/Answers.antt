use Rattle.std.proofs.Common.{◌≡◌, ◌<◌, sym, ap, ◌∙◌, subst}
use Rattle.std.proofs.lemmas.Result.{MatchResult-at_ok}
use Rattle.problem.specs.declared.day.Day.{Day}
use Rattle.planner.specs.Choosing.{rules_in}
use Rattle.planner.specs.Loading.{Loaded}
use Rattle.planner.proofs.Stepping.{plan_sound}
use Rattle.planner.proofs.cursor.Cursor.plan.Goals as goal

pub returns-clause-sound : goal.returns-clause-sound
returns-clause-sound g c =
    let s = c.args.selection in
    let day = s.problem.now.day in
    let m = g.N.Network.net c.args.self.now.network.now in
    let events : c.events.result ≡ day.events = c.events.ensures ∙ ap (λ (d : Day). d.events) c.day.ensures in
    let loaded = subst (λ d. Loaded day (rules_in s) s.choices.now d m) c.requires.whole c.requires.stands in
    plan_sound day (rules_in s) s.problem.now.fit s.choices.now s.selected m loaded _ (MatchResult-at_ok _ _ _ c.unwrap.ensures c.try_from.ensures).0
    (c.earliest_minutes.ensures.each ∙ events) (λ i l. c.earliest_minutes.ensures.earliest i (subst (λ n. i < n) (sym events) l))
