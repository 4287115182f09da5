use Rattle.std.proofs.Common.{◌≡◌, ◌+◌, ◌<◌, ◌≤◌, [], length, take, refl, ◌∙◌, inl, arith}
use Rattle.std.proofs.lemmas.Bool.Decides.{not_from_Decides}
use Rattle.search.specs.Selections.{Feasible, price}
use Rattle.planner.specs.Choosing.{rules_in}
use Rattle.planner.specs.Probing.{HopefulAt}
use Rattle.planner.proofs.Choosing.{selects_length}
use Rattle.planner.proofs.Loadings.{refused, granted, loaded_feasible}
use Rattle.planner.proofs.Prices.{price_none, price_more, at_most_none, at_most_more, hopeful, dear}
use Rattle.planner.proofs.cursor.Cursor.probe.Goals as goal

pub loop-i-init : goal.loop-i-init
loop-i-init g c =
    let way = g.W.Counting.way in
    let s = c.args.selection in
    let day = s.problem.now.day in
    let best = c.args.self.now.best in
    let m = g.N.Network.net c.args.self.now.network.now in
    let p = price_none way (rules_in s) _ (c.ZERO-price.ensures ∙ g.met.W.Counting.zero_cost) in
    let f : Feasible day (rules_in s) [] = loaded_feasible day (rules_in s) s.choices.now c.args.self.now.depth 0 m (omega arith) (g.met.N.Network.sound c.args.self.now.network.now).solvable c.requires.stands in
    record {
      covers = omega arith;
      stands = c.requires.stands;
      price_is = p;
      hopeful = at_most_none (λ k. HopefulAt way day (rules_in s) best (take k s.choices.now)) (hopeful way day (rules_in s) best [] c.ZERO-price.result p f (not_from_Decides _ c.beaten.ensures c.if-beaten.false));
      best = refl;
    }

pub returns-then-is_err-clause-probed : goal.returns-then-is_err-clause-probed
returns-then-is_err-clause-probed g c =
    (omega arith, inl (refused _ _ c.load.result c.if-is_err.ensures.value c.load.ensures.cases), λ k l. c.loop-i.invariant.hopeful k (omega arith))

pub returns-then-beaten-2-clause-probed : goal.returns-then-beaten-2-clause-probed
returns-then-beaten-2-clause-probed g c =
    let way = g.W.Counting.way in
    let s = c.args.selection in
    let i = c.loop-i.i in
    let p : c.join-price.result ≡ price way (rules_in s) (take (i + 1) s.choices.now) = price_more way (rules_in s) s.choices.now i s.selected c.loop-i-test.true c.penalty.result c.loop-i.price c.reading.result c.join-price.result c.loop-i.invariant.price_is c.penalty.ensures c.reading.ensures c.join-price.ensures in
    (omega arith, dear way s.problem.now.day (rules_in s) c.args.self.now.best (take (i + 1) s.choices.now) c.join-price.result p (c.if-beaten-2.ensures.0 refl), λ k l. c.loop-i.invariant.hopeful k (omega arith))

pub loop-i-preserved : goal.loop-i-preserved
loop-i-preserved g c =
    let way = g.W.Counting.way in
    let s = c.args.selection in
    let day = s.problem.now.day in
    let i = c.loop-i.i in
    let best = c.args.self.now.best in
    let cursor = c.load.new.self in
    let m = g.N.Network.net cursor.network.now in
    let more : i < cursor.depth = granted _ _ c.load.result c.if-is_err.ensures.value c.load.ensures.cases in
    let p : c.join-price.result ≡ price way (rules_in s) (take (i + 1) s.choices.now) = price_more way (rules_in s) s.choices.now i s.selected c.loop-i-test.true c.penalty.result c.loop-i.price c.reading.result c.join-price.result c.loop-i.invariant.price_is c.penalty.ensures c.reading.ensures c.join-price.ensures in
    let f : Feasible day (rules_in s) (take (i + 1) s.choices.now) = loaded_feasible day (rules_in s) s.choices.now cursor.depth (i + 1) m (omega arith) (g.met.N.Network.sound cursor.network.now).solvable c.load.ensures.stands in
    record {
      covers = omega arith;
      stands = c.load.ensures.stands;
      price_is = p;
      hopeful = at_most_more (λ k. HopefulAt way day (rules_in s) best (take k s.choices.now)) i c.loop-i.invariant.hopeful (hopeful way day (rules_in s) best (take (i + 1) s.choices.now) c.join-price.result p f (not_from_Decides _ c.beaten-in-loop-i.ensures c.if-beaten-2.false));
      best = c.load.ensures.best ∙ c.loop-i.invariant.best;
    }

pub returns-clause-probed : goal.returns-clause-probed
returns-clause-probed g c = λ k l. c.loop-i.invariant.hopeful k (omega arith)

pub returns-clause-whole : goal.returns-clause-whole
returns-clause-whole g c =
    let s = c.args.selection in
    let n = selects_length (rules_in s) s.choices.now s.selected in
    let within : c.loop-i.self.depth ≤ length (rules_in s) = c.loop-i.invariant.stands.within in
    let covers : c.loop-i.i ≤ c.loop-i.self.depth = c.loop-i.invariant.covers in
    λ e. omega arith
