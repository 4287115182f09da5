-- What holds of a plan and of the progress of a search, and the state that a progress stands for.
--   SoundPlan       a plan is a selection, with its smallest minutes
--   SoundProgress   the position is a selection, and a plan that is kept is sound
--   state_of         which selections are settled, and which is kept
use Rattle.std.specs.Prelude.{◌≡◌, ℕ, ◌<◌, ◌≤◌, true, List, length, Some}
use Rattle.std.specs.Option.{option_map}
use Rattle.problem.specs.Rules.{Rule}
use Rattle.problem.specs.Timetables.{minute}
use Rattle.problem.specs.declared.day.Day.{Day}
use Rattle.search.specs.Searches.{State}
use Rattle.search.specs.Selections.{picked, Met}
use Rattle.search.specs.Tests.{every, chosen, selects}
use Rattle.planner.specs.Advancing.{passed}
use Rattle.planner.specs.Choosing.{Choices}
use Rattle.planner.specs.declared.progress.Plan.{Plan}
use Rattle.planner.specs.declared.progress.Progress.{Progress}

-- its minutes are a timetable of the day that meets its selection, and none that does is earlier anywhere
pub record SoundPlan (day : Day) (rules : List Rule) (plan : Plan) : Type 0 where
  pub selection : selects rules plan.choices.items ≡ true
  pub each : length plan.minutes.items ≡ day.events
  pub starts : minute plan.minutes.items 0 ≡ 0
  pub ends : (i : ℕ) → i < day.events → minute plan.minutes.items i ≤ day.horizon
  pub meets : every (chosen (minute plan.minutes.items)) (picked rules plan.choices.items) ≡ true
  pub lowest : (i : ℕ) (T : ℕ → ℕ) → (i < day.events) × Met day rules T plan.choices.items → minute plan.minutes.items i ≤ T i

pub record SoundProgress (day : Day) (rules : List Rule) (p : Progress) : Type 0 where
  pub placed : (position : Choices) → p.position ≡ Some position → selects rules position.items ≡ true
  pub kept : (plan : Plan) → p.plan ≡ Some plan → SoundPlan day rules plan

-- the selections before the position are settled, or all where there is none; the plan's selection is kept
abbrev pub state_of : Progress → State
state_of p = record {
  settled = passed p.position;
  kept = option_map (λ plan. plan.choices.items) p.plan;
}
