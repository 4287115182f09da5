use Rattle.std.proofs.Common.{vec_items, sym, ap, ◌∙◌}
use Rattle.problem.specs.Costs.{charge}
use Rattle.planner.proofs.Choosing.{firm_never, wish_given_up}
use Rattle.planner.proofs.choice.penalty_of.Goals as goal

pub unreachable-requires : goal.unreachable-requires
unreachable-requires c =
    let r = c.args.rule.now in
    firm_never (vec_items r.disjuncts) r.kind c.args.choice c.in-None-Firm.is-1 (sym c.option_of.ensures ∙ c.in-None-Firm.is-0) c.requires

pub returns-in-None-Wish : goal.returns-in-None-Wish
returns-in-None-Wish c =
    let r = c.args.rule.now in
    sym (ap charge (wish_given_up (vec_items r.disjuncts) r.kind c.args.choice c.in-None-Wish.penalty c.in-None-Wish.is-1 (sym c.option_of.ensures ∙ c.in-None-Wish.is-0) c.requires))
