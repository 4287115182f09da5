use Rattle.std.proofs.Common.{◌≡◌, ◌+◌, length, take, sym, ap, ◌∙◌, arith}
use Rattle.std.specs.Iterator.Adapters.{zip_first, zip_second}
use Rattle.std.specs.Slice.Iter.{iter_rest}
use Rattle.problem.specs.Costs.{charge}
use Rattle.search.specs.Selections.{price}
use Rattle.planner.specs.Choosing.{rules_in, choice_in}
use Rattle.planner.proofs.Prices.{price_none, price_more}
use Rattle.planner.proofs.Reading.{turn_within, turn_choice, turn_read, turns_end, taken_more}
use Rattle.planner.proofs.selection.Selection.price.Goals as goal

pub loop-rule-init : goal.loop-rule-init
loop-rule-init g c =
    let zero : c.ZERO-total.result ≡ g.W.Counting.way.zero = c.ZERO-total.ensures ∙ g.met.W.Counting.zero_cost in
    price_none g.W.Counting.way (rules_in c.args.self) _ (cc)

pub penalty_of-requires : goal.penalty_of-requires
penalty_of-requires g c =
    let s = c.args.self in
    let first : iter_rest (zip_first c.into_iter-rule-iterator.result) ≡ c.rules.result.now = cc in
    let second : iter_rest (zip_second c.into_iter-rule-iterator.result) ≡ s.choices.now = cc in
    let within = turn_choice (rules_in s) c.rules.result.now c.rules.ensures s.choices.now s.selected c.loop-rule.yielded _ c.loop-rule.rule-iterator c.next.new.self c.next.result first second c.loop-rule.yielded_by c.next.ensures.steps c.in-Some.rule c.in-Some.choice c.in-Some.is in
    omega arith

pub loop-rule-preserved : goal.loop-rule-preserved
loop-rule-preserved g c =
    let s = c.args.self in
    let way = g.W.Counting.way in
    let xs = c.loop-rule.yielded in
    let first : iter_rest (zip_first c.into_iter-rule-iterator.result) ≡ c.rules.result.now = cc in
    let second : iter_rest (zip_second c.into_iter-rule-iterator.result) ≡ s.choices.now = cc in
    let within = turn_within (rules_in s) c.rules.result.now c.rules.ensures s.choices.now s.selected xs _ c.loop-rule.rule-iterator c.next.new.self c.next.result first second c.loop-rule.yielded_by c.next.ensures.steps c.in-Some.rule c.in-Some.choice c.in-Some.is in
    let read = turn_read (rules_in s) c.rules.result.now c.rules.ensures s.choices.now s.selected xs _ c.loop-rule.rule-iterator c.next.new.self c.next.result first second c.loop-rule.yielded_by c.next.ensures.steps c.in-Some.rule c.in-Some.choice c.in-Some.is in
    let penalty : c.penalty_of.result ≡ charge (choice_in s (length xs)) = c.penalty_of.ensures ∙ rw c.from.ensures (ap charge (sym read)) in
    let more : c.join-total.result ≡ price way (rules_in s) (take (length xs + 1) s.choices.now) = price_more way (rules_in s) s.choices.now (length xs) s.selected within c.penalty_of.result c.loop-rule.total c.reading.result c.join-total.result c.loop-rule.invariant penalty c.reading.ensures c.join-total.ensures in
    more ∙ ap (price way (rules_in s)) (sym (taken_more xs (c.in-Some.rule, c.in-Some.choice) s.choices.now))

pub returns : goal.returns
returns g c =
    let s = c.args.self in
    let first : iter_rest (zip_first c.into_iter-rule-iterator.result) ≡ c.rules.result.now = cc in
    let second : iter_rest (zip_second c.into_iter-rule-iterator.result) ≡ s.choices.now = cc in
    let all = turns_end (rules_in s) c.rules.result.now c.rules.ensures s.choices.now s.selected c.loop-rule.yielded _ c.loop-rule.rule-iterator c.next.new.self c.next.result first second c.loop-rule.yielded_by c.next.ensures.steps c.in-None.is in
    c.loop-rule.invariant ∙ ap (price g.W.Counting.way (rules_in s)) all
