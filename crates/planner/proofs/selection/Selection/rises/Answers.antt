use Rattle.std.proofs.Common.{◌≡◌, length, arith}
use Rattle.std.proofs.lemmas.Bool.{lt-ltb, ltb-true}
use Rattle.problem.specs.Rules.{rule_of}
use Rattle.problem.specs.Timetables.{choices}
use Rattle.planner.specs.Choosing.{rules_in, width_at}
use Rattle.planner.proofs.Reading.{width_read}
use Rattle.planner.proofs.selection.Selection.rises.Goals as goal

pub returns : goal.returns
returns c =
    let s = c.args.self in
    let w : width_at (rules_in s) c.args.i ≡ length (choices (rule_of c.rule.result.now)) = width_read (rules_in s) s.choices.now s.selected c.args.i (rule_of c.rule.result.now) c.requires c.rule.ensures in
    (λ t. let l = ltb-true _ _ t in omega arith, λ l. lt-ltb _ _ (omega arith))
