use Rattle.std.proofs.Common.{sym, ap, ◌∙◌}
use Rattle.problem.specs.Rules.{rule_of}
use Rattle.planner.specs.Choosing.{as_option, rules_in}
use Rattle.planner.proofs.Reading.{choice_read}
use Rattle.planner.proofs.selection.Selection.option.Goals as goal

pub returns : goal.returns
returns c =
    let s = c.args.self in
    c.option_of.ensures ∙ rw c.from.ensures (ap as_option (sym (choice_read (rules_in s) s.choices.now s.selected c.args.i (rule_of c.rule.result.now) c.requires c.rule.ensures)))
