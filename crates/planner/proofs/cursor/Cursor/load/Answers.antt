use Rattle.std.proofs.Common.{◌≡◌, arith}
use Rattle.std.proofs.lemmas.Result.{err_from_is_err_and}
use Rattle.planner.specs.Choosing.{rules_in}
use Rattle.planner.proofs.Loadings.{option_lawful, option_room, loaded_nothing, loaded_put, unfeasible}
use Rattle.planner.proofs.Reading.{few_choices}
use Rattle.planner.proofs.cursor.Cursor.load.Goals as goal
use Rattle.planner.proofs.cursor.Cursor.load.Goals.{in-Some+in_ok-push_option, in_default}

pub push_option-requires-clause-lawful : goal.push_option-requires-clause-lawful
push_option-requires-clause-lawful g c =
    let s = c.args.selection in
    let here : c.args.self.now.depth ≡ c.args.i = omega arith in
    option_lawful s.problem.now.day (rules_in s) s.choices.now s.selected c.args.i c.requires.more c.args.self.now.depth _ c.requires.stands here c.in-Some.option c.in-Some.ensures s.problem.now.fit

pub push_option-requires-clause-room : goal.push_option-requires-clause-room
push_option-requires-clause-room g c =
    let s = c.args.selection in
    let here : c.args.self.now.depth ≡ c.args.i = omega arith in
    let few = few_choices s.problem.now s.choices.now s.selected in
    let more = c.requires.more in
    option_room s.problem.now.day (rules_in s) s.choices.now s.selected c.args.i c.requires.more c.args.self.now.depth _ c.requires.stands here (omega arith)

pub returns-in_err-push_option-clause-cases : goal.returns-in_err-push_option-clause-cases
returns-in_err-push_option-clause-cases g c =
    let s = c.args.selection in
    let here : c.args.self.now.depth ≡ c.args.i = omega arith in
    let p = err_from_is_err_and c.from_residual.result c.from_residual.ensures.1 in
    rw p.1 (unfeasible s.problem.now.day (rules_in s) s.choices.now s.selected c.args.i c.requires.more c.args.self.now.depth _ c.requires.stands here c.in-Some.option c.in-Some.ensures c.in_err-push_option.ensures.0)

pub returns-clause-stands : goal.returns-clause-stands
returns-clause-stands g c =
    let s = c.args.selection in
    let here : c.args.self.now.depth ≡ c.args.i = omega arith in
    elim c.match-option.branch [
      | in-Some+in_ok-push_option w ↦ rw w.self-is (loaded_put s.problem.now.day (rules_in s) s.choices.now s.selected c.args.i c.requires.more c.args.self.now.depth _ c.requires.stands here w.in-Some.option _ w.in-Some.ensures w.in_ok-push_option.ensures)
      | in_default w ↦ rw w.self-is (loaded_nothing s.problem.now.day (rules_in s) s.choices.now s.selected c.args.i c.requires.more c.args.self.now.depth _ c.requires.stands here w.in_default.ensures)
    ]
