use Rattle.std.proofs.Common.{arith, ◌≡◌, true, sym, subst, map, rules}
use Rattle.std.proofs.lemmas.List.{take_all}
use Rattle.problem.specs.Checks.{passes, rule_checks}
use Rattle.problem.specs.Costs.{Least}
use Rattle.problem.specs.Rules.{rule_of}
use Rattle.problem.specs.Timetables.{minute, choices}
use Rattle.costing.specs.Cheapest.{gives, Unmet}
use Rattle.costing.proofs.Answering.{timetable_of, rule_fits, answers_cost, answers_rule}
use Rattle.costing.proofs.Totals.{costs_more, first_unmet}
use Rattle.costing.proofs.cost.cost_of.Goals as goal

pub rule_cost-requires : goal.rule_cost-requires
rule_cost-requires g c =
    let p = c.args.problem.now in
    let day : c.in_ok-timetable.timetable.day ≡ p.day = search rules in
    subst (λ d. passes (rule_checks d (rule_of c.rule-item.result)) ≡ true) (sym day)
    (rule_fits p c.rules-rule-items.result.now c.loop-number.number c.rule-item.result c.rules-rule-items.ensures c.loop-number-test.true c.rule-item.is)

pub loop-number-preserved : goal.loop-number-preserved
loop-number-preserved g c =
    let way = g.W.Counting.way in
    let T = minute c.args.minutes.now in
    let given : gives c.in_ok-timetable.timetable ≡ T = search rules in
    let least : Least way T (choices (rule_of c.rule-item.result)) c.in-Some.cost = subst (λ m. Least way m (choices (rule_of c.rule-item.result)) c.in-Some.cost) given c.in-Some.ensures in
    let joined : c.join-total.result ≡ way.join c.loop-number.total c.in-Some.cost = search rules in
    costs_more way T c.rules-rule-items.result.now c.loop-number.number c.rule-item.result c.loop-number.total c.in-Some.cost c.join-total.result c.loop-number-test.true c.rule-item.is c.loop-number.invariant least joined

pub returns-in_default : goal.returns-in_default
returns-in_default g c =
    let way = g.W.Counting.way in
    let p = c.args.problem.now in
    let ms = c.args.minutes.now in
    let given : c.in_ok-timetable.timetable.minutes.now ≡ ms = search rules in
    let day : c.in_ok-timetable.timetable.day ≡ p.day = search rules in
    let none : Unmet (minute ms) (choices (rule_of c.rule-item.result)) = subst (λ xs. Unmet (minute xs) (choices (rule_of c.rule-item.result))) given c.in_default.ensures in
    answers_rule p ms (timetable_of p ms c.in_ok-timetable.timetable day given) (map rule_of c.rules-rule-items.result.now) c.loop-number.number _ (omega arith) c.rules-rule-items.ensures
    (first_unmet way (minute ms) c.rules-rule-items.result.now c.loop-number.number c.rule-item.result c.loop-number.total c.loop-number-test.true c.rule-item.is c.loop-number.invariant none)

pub returns : goal.returns
returns g c =
    let p = c.args.problem.now in
    let ms = c.args.minutes.now in
    let given : c.in_ok-timetable.timetable.minutes.now ≡ ms = search rules in
    let day : c.in_ok-timetable.timetable.day ≡ p.day = search rules in
    answers_cost p ms (timetable_of p ms c.in_ok-timetable.timetable day given) g.W.Counting.way g.met.W.Counting.lawful (map rule_of c.rules-rule-items.result.now) c.loop-number.total c.rules-rule-items.ensures
    (rw (take_all c.loop-number.number c.rules-rule-items.result.now c.loop-number-test.false) at c.loop-number.invariant)
