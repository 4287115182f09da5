use Rattle.std.proofs.Common.{◌≡◌, ◌≤◌, length, arith}
use Rattle.planner.specs.Choosing.{rules_in}
use Rattle.planner.proofs.Reading.{few_choices, counted, rule_at}
use Rattle.planner.proofs.selection.Selection.rule.Goals as goal

pub offset_bounds-rules-i : goal.offset_bounds-rules-i
offset_bounds-rules-i c =
    let s = c.args.self in
    let few : length s.choices.now ≤ 32 = few_choices s.problem.now s.choices.now s.selected in
    record { fits = omega arith }

pub bounds-rules-i : goal.bounds-rules-i
bounds-rules-i c =
    let s = c.args.self in
    let n : length c.rules.result.now ≡ length s.choices.now = counted (rules_in s) c.rules.result.now s.choices.now c.rules.ensures s.selected in
    omega arith

pub returns : goal.returns
returns c =
    let s = c.args.self in
    let n : length c.rules.result.now ≡ length s.choices.now = counted (rules_in s) c.rules.result.now s.choices.now c.rules.ensures s.selected in
    rule_at (rules_in s) c.rules.result.now c.rules.ensures c.args.i c.index-rules-i.result (omega arith) c.index-rules-i.is
