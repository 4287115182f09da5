-- What calls on a planner mean, one by one and in lists.
--   View      a draft with its day and rules, or a search with its day, rules and state
--   Acts      what a call that belongs to the state does, and what it answers
--   of_draft  whether a call belongs to a draft
--   belongs   whether a call belongs to the state
--   Answered  what a call answers
--   Means     what any call does: one that does not belong is handed back and changes nothing
--   Made      what a list of calls makes of a new planner, and the answers
use Rattle.std.specs.Prelude.{◌≡◌, ℕ, Bool, true, false, not, List, [], ◌∷◌, ◌++◌, Some, None, Ok, Err, Result}
use Rattle.std.specs.List.{remove}
use Rattle.counting.specs.Ways.{Way}
use Rattle.problem.specs.Checks.{first_refusal}
use Rattle.problem.specs.Rules.{Rule, rule_of}
use Rattle.problem.specs.declared.constraint.Constraint.{Constraint}
use Rattle.problem.specs.declared.day.Day.{Day}
use Rattle.problem.specs.declared.refusal.Refusal.{Refusal}
use Rattle.problem.specs.Problems.{rules_set_checks, rules_adopt_checks, drop_checks}
use Rattle.search.specs.Outcomes.{Tells}
use Rattle.search.specs.Searches.{State, Start}
use Rattle.planner.specs.Calls.{press_checks, read_checks, Reads}
use Rattle.planner.specs.Stepping.{Pressed}
use Rattle.planner.specs.declared.outcome.Outcome.{Outcome}
use Rattle.histories.specs.declared.calls.Call.{Call}
use Rattle.histories.specs.declared.calls.Rejection.{Rejection}
use Rattle.histories.specs.declared.calls.Reply.{Reply}

-- all that calls can tell of a planner
pub data View : Type 0 where
  drafting : Day → List Rule → View
  searching : Day → List Rule → State → View

-- set, adopt, drop and close belong to a draft, the others to a search
abbrev pub of_draft : Call → Bool
of_draft (Call.Set events horizon) = true
of_draft (Call.Adopt c) = true
of_draft (Call.Drop number) = true
of_draft Call.Close = true
of_draft (Call.Press steps) = false
of_draft Call.Outcome = false
of_draft (Call.Read event) = false
of_draft Call.Reopen = false

abbrev pub belongs : Call → View → Bool
belongs c (drafting day rules) = of_draft c
belongs c (searching day rules s) = not (of_draft c)

-- what a call answers
abbrev pub Answered : Type 0 → Type 0
Answered C = Result (Reply C) Rejection

module _ {C : Type 0} (way : Way C) where
  -- from one view to another, with the answer; one line for each outcome of each call
  pub data Acts : Call → View → View → Answered C → Type 0 where
    -- the day is fixed while no rules stand, or the first check that fails is told
    sets : (day new : Day) (rules : List Rule) (events horizon : ℕ) → first_refusal (rules_set_checks rules events horizon) ≡ None → new.events ≡ events → new.horizon ≡ horizon
        → Acts (Call.Set events horizon) (drafting day rules) (drafting new []) (Ok Reply.Done)
    sets_not : (day : Day) (rules : List Rule) (events horizon : ℕ) (e : Refusal) → first_refusal (rules_set_checks rules events horizon) ≡ Some e
        → Acts (Call.Set events horizon) (drafting day rules) (drafting day rules) (Err (Rejection.Refused e))
    -- a rule comes last, or is handed back
    adopts : (day : Day) (rules : List Rule) (c : Constraint) → first_refusal (rules_adopt_checks day rules (rule_of c)) ≡ None
        → Acts (Call.Adopt c) (drafting day rules) (drafting day (rules ++ rule_of c ∷ [])) (Ok Reply.Done)
    returns : (day : Day) (rules : List Rule) (c : Constraint) (e : Refusal) → first_refusal (rules_adopt_checks day rules (rule_of c)) ≡ Some e
        → Acts (Call.Adopt c) (drafting day rules) (drafting day rules) (Err (Rejection.Returned (record { refusal = e; rule = c })))
    -- a rule is taken out
    drops : (day : Day) (rules : List Rule) (number : ℕ) → first_refusal (drop_checks rules number) ≡ None
        → Acts (Call.Drop number) (drafting day rules) (drafting day (remove rules number)) (Ok Reply.Done)
    drops_not : (day : Day) (rules : List Rule) (number : ℕ) (e : Refusal) → first_refusal (drop_checks rules number) ≡ Some e
        → Acts (Call.Drop number) (drafting day rules) (drafting day rules) (Err (Rejection.Refused e))
    -- a search begins with nothing settled and no plan
    closes : (day : Day) (rules : List Rule) (s : State) → Start way day rules s → Acts Call.Close (drafting day rules) (searching day rules s) (Ok Reply.Done)
    -- steps are made
    presses : (day : Day) (rules : List Rule) (s t : State) (steps made : ℕ) → first_refusal (press_checks steps) ≡ None → Pressed way day rules s steps made t
        → Acts (Call.Press steps) (searching day rules s) (searching day rules t) (Ok (Reply.Stepped made))
    presses_not : (day : Day) (rules : List Rule) (s : State) (steps : ℕ) (e : Refusal) → first_refusal (press_checks steps) ≡ Some e
        → Acts (Call.Press steps) (searching day rules s) (searching day rules s) (Err (Rejection.Refused e))
    -- the word, the cost and the rules given up
    tells : (day : Day) (rules : List Rule) (s : State) (o : Outcome C) → Tells way rules s o.word o.cost o.given
        → Acts Call.Outcome (searching day rules s) (searching day rules s) (Ok (Reply.Told o))
    -- the smallest minute of an event
    reads : (day : Day) (rules : List Rule) (s : State) (event t : ℕ) → first_refusal (read_checks day s event) ≡ None → Reads day rules s event t
        → Acts (Call.Read event) (searching day rules s) (searching day rules s) (Ok (Reply.Minute t))
    reads_not : (day : Day) (rules : List Rule) (s : State) (event : ℕ) (e : Refusal) → first_refusal (read_checks day s event) ≡ Some e
        → Acts (Call.Read event) (searching day rules s) (searching day rules s) (Err (Rejection.Refused e))
    -- a draft again, of the same day and rules
    reopens : (day : Day) (rules : List Rule) (s : State) → Acts Call.Reopen (searching day rules s) (drafting day rules) (Ok Reply.Done)

  pub data Means : Call → View → View → Answered C → Type 0 where
    acts : (c : Call) (v w : View) (a : Answered C) → Acts c v w a → Means c v w a
    misplaced : (c : Call) (v : View) → belongs c v ≡ false → Means c v v (Err (Rejection.Misplaced c))

  -- a new planner is a draft with one event, horizon 0 and no rules; then call after call
  pub data Made : List Call → View → List (Answered C) → Type 0 where
    nothing : (day : Day) → day.events ≡ 1 → day.horizon ≡ 0 → Made [] (drafting day []) []
    more : (cs : List Call) (v w : View) (answers : List (Answered C)) (c : Call) (a : Answered C) → Made cs v answers → Means c v w a → Made (cs ++ c ∷ []) w (answers ++ a ∷ [])
