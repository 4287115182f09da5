use Rattle.std.proofs.Common.{◌≡◌, None, rules}
use Rattle.problem.specs.Rules.{rule_of}
use Rattle.problem.proofs.Fit.{options_fit}
use Rattle.costing.specs.Cheapest.{gives, lesser, met_costs, least_cost}
use Rattle.costing.proofs.Cheaper.{cheapest_firm, cheapest_wish}
use Rattle.costing.proofs.least.rule_cost.Goals as goal

pub least_met-least-requires : goal.least_met-least-requires
least_met-least-requires g c = rw c.as_slice.ensures.value (options_fit c.args.timetable.now.day (rule_of c.args.rule.now) c.requires)

pub returns-in-Firm : goal.returns-in-Firm
returns-in-Firm g c =
    let way = g.W.Counting.way in
    let T = gives c.args.timetable.now in
    let rule = rule_of c.args.rule.now in
    let least : c.least_met-least.result ≡ least_cost way None (met_costs way T rule.options) = search rules in
    cheapest_firm way g.met.W.Counting.lawful T rule c.least_met-least.result least c.in-Firm.is

pub returns-in-Wish : goal.returns-in-Wish
returns-in-Wish g c =
    let way = g.W.Counting.way in
    let T = gives c.args.timetable.now in
    let rule = rule_of c.args.rule.now in
    let least : c.least_met-least.result ≡ least_cost way None (met_costs way T rule.options) = search rules in
    let lower : c.lesser_of.result ≡ lesser way c.least_met-least.result (way.reading c.in-Wish.penalty) = search rules in
    cheapest_wish way g.met.W.Counting.lawful T rule c.least_met-least.result least c.in-Wish.penalty c.lesser_of.result c.in-Wish.is lower
