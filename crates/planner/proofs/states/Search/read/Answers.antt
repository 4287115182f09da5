use Rattle.std.proofs.Common.{◌≡◌, ◌<◌, length, Some, sym, ap, ◌∙◌, arith}
use Rattle.std.specs.Option.{option_copied}
use Rattle.problem.specs.Problems.{rules_of}
use Rattle.problem.specs.declared.refusal.Refusal.TheVariants as refusal
use Rattle.planner.specs.Calls.{Reads}
use Rattle.planner.specs.Views.{search_state}
use Rattle.planner.proofs.Held.{read_got, reads}
use Rattle.planner.proofs.states.Search.read.Goals as goal

pub returns-clause-minute : goal.returns-clause-minute
returns-clause-minute g c =
    let s = c.args.self.now in
    let day = s.problem.day in
    let plan = c.in_ok-plan.plan.now in
    let kept : s.progress.plan ≡ Some plan = sym c.as_ref.ensures.value ∙ ap option_copied c.in_ok-plan.ensures.ok_part in
    let each : length plan.minutes.items ≡ day.events = (s.sound.kept plan kept).each in
    let n : length c.deref.result.now ≡ length plan.minutes.items = ap length c.deref.ensures.0 in
    read_got (Reads day (rules_of s.problem) (search_state s) c.args.event) c.deref.result.now c.args.event c.get.result _ refusal.NoSuchEvent (cc) c.get.ensures.lookup.0 (c.get.ensures.lookup.4 (omega arith) 0)
    (λ l. rw c.deref.ensures.0 (let within : c.args.event < day.events = omega arith in reads day (rules_of s.problem) s.progress s.sound plan kept c.args.event within))
