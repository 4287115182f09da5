use Rattle.std.proofs.Common.{◌<◌, length, get_or, sym, ap, ◌∙◌, arith}
use Rattle.problem.specs.Costs.{charge}
use Rattle.problem.specs.Rules.{rule_of}
use Rattle.problem.specs.Timetables.{choices}
use Rattle.planner.specs.Choosing.{rules_in}
use Rattle.planner.proofs.Reading.{choice_within, choice_read}
use Rattle.planner.proofs.selection.Selection.penalty.Goals as goal

pub penalty_of-requires : goal.penalty_of-requires
penalty_of-requires c =
    let s = c.args.self in
    let within : get_or s.choices.now c.args.i 0 < length (choices (rule_of c.rule.result.now)) = choice_within (rules_in s) s.choices.now s.selected c.args.i (rule_of c.rule.result.now) c.requires c.rule.ensures in
    omega arith

pub returns : goal.returns
returns c =
    let s = c.args.self in
    c.penalty_of.ensures ∙ rw c.from.ensures (ap charge (sym (choice_read (rules_in s) s.choices.now s.selected c.args.i (rule_of c.rule.result.now) c.requires c.rule.ensures)))
