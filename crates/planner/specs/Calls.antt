-- The checks and answers of the calls on a search.
--   max_press      the most steps of a press
--   press_checks   1 to max_press steps
--   read_checks    a plan is kept, then the day has the event
--   Reads          the smallest minute of an event under the plan
--   word_of        the word of a search
use Rattle.std.specs.Prelude.{◌≡◌, ℕ, ◌&&◌, List, [], ◌∷◌, is_some, Some, None, Option, nat_le, nat_lt}
use Rattle.problem.specs.Checks.{Check, check}
use Rattle.problem.specs.Rules.{Rule}
use Rattle.problem.specs.declared.day.Day.{Day}
use Rattle.problem.specs.declared.refusal.Refusal.TheVariants as refusal
use Rattle.search.specs.Outcomes.{Smallest}
use Rattle.search.specs.Searches.{State}
use Rattle.search.specs.declared.word.Word.{Word}
use Rattle.search.specs.declared.word.Word.TheVariants as word
use Rattle.planner.specs.Choosing.{Choices}
use Rattle.planner.specs.declared.progress.Plan.{Plan}

-- the most steps of one press
abbrev pub max_press : ℕ
max_press = 100000

-- at least one step, and at most max_press
abbrev pub press_checks : ℕ → List Check
press_checks steps = check (nat_le 1 steps && nat_le steps max_press) refusal.PressRange ∷ []

-- a plan, then the event
abbrev pub read_checks : Day → State → ℕ → List Check
read_checks day s event = check (is_some s.kept) refusal.NoPlan ∷ (check (nat_lt event day.events) refusal.NoSuchEvent ∷ [])

-- t is the smallest minute of the event over the timetables that meet the kept selection
abbrev pub Reads : Day → List Rule → State → ℕ → ℕ → Type 0
Reads day rules s event t = (plan : List ℕ) × (s.kept ≡ Some plan) × Smallest day rules plan event t

-- by whether there is a position, and whether a plan is kept
abbrev pub word_of : Option Choices → Option Plan → Word
word_of (Some position) None = word.Open
word_of (Some position) (Some plan) = word.Short
word_of None None = word.None
word_of None (Some plan) = word.Proved
