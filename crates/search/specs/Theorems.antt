-- What is proved of every search.
--   AllSmallest            a timetable gives every event its smallest minute under a selection
--   NoneAllowed            the rules allow no timetable of the day
--   NoCheaper              nothing settled is feasible and cheaper than the plan
--   Optimal                 a plan that no allowed timetable undercuts
--   Verdict                 no plan exactly where nothing is allowed, and otherwise an optimal one
--   Same                    two states with the same settled selections and the same plan
--   Agree                   no plans, or plans of equal price
--   OrderDoesNotMatter   what two orders of the same rules have in common
--   Ending                  how a search comes to its end
--   SettledNoCheaper, EndedOptimal, StepsDetermine, OrderFree, Ends, SmallestTogether   the theorems
use Rattle.std.specs.Prelude.{◌≡◌, ℕ, ◌<◌, ◌≤◌, ◌↔◌, List, Some, None, Option}
use Rattle.std.specs.List.Sorted.{IsPermutation}
use Rattle.counting.specs.Ways.{Way, Laws, AtMost}
use Rattle.problem.specs.Costs.{Costs}
use Rattle.problem.specs.Rules.{Rule}
use Rattle.problem.specs.Timetables.{OfDay, Allowed}
use Rattle.problem.specs.declared.day.Day.{Day}
use Rattle.search.specs.Selections.{Selection, selections, Fit, Met, Feasible, price}
use Rattle.search.specs.Searches.{State, Settled, Step, After, Running, Ended}
use Rattle.search.specs.Outcomes.{Smallest}

-- S gives every event of the day its smallest minute over the timetables that meet the selection
abbrev pub AllSmallest : Day → List Rule → List ℕ → (ℕ → ℕ) → Type 0
AllSmallest day rules ns S = (i : ℕ) → i < day.events → Smallest day rules ns i (S i)

-- the day allows no timetable
abbrev pub NoneAllowed : Day → List Rule → Type 0
NoneAllowed day rules = (T : ℕ → ℕ) → OfDay day T → Allowed T rules → ⊥

module _ {C : Type 0} (way : Way C) (day : Day) (rules : List Rule) where
  -- a settled selection that some timetable meets has a price no lower than the plan's; without a plan there is none
  pub record NoCheaper (s : State) : Type 0 where
    pub no_plan : s.kept ≡ None → (ns : List ℕ) → Selection rules ns → Settled s ns → Feasible day rules ns → ⊥
    pub plan : (plan : List ℕ) → s.kept ≡ Some plan → (ns : List ℕ) → Selection rules ns → Settled s ns → Feasible day rules ns
        → AtMost way (price way rules plan) (price way rules ns)

  -- the smallest minutes under the plan are an allowed timetable that costs the plan's price, and none costs less
  pub record Optimal (plan : List ℕ) : Type 0 where
    pub selection : Selection rules plan
    pub minutes : (S : ℕ → ℕ) × AllSmallest day rules plan S
    pub timetable : (S : ℕ → ℕ) → AllSmallest day rules plan S → OfDay day S
    pub allowed : (S : ℕ → ℕ) → AllSmallest day rules plan S → Allowed S rules
    pub costs : (S : ℕ → ℕ) → AllSmallest day rules plan S → Costs way S rules (price way rules plan)
    pub lowest : (T : ℕ → ℕ) (c : C) → OfDay day T → Costs way T rules c → AtMost way (price way rules plan) c

  -- no plan exactly where nothing is allowed, and otherwise an optimal one
  pub record Verdict (s : State) : Type 0 where
    pub no_plan : (s.kept ≡ None) ↔ NoneAllowed day rules
    pub optimal : (plan : List ℕ) → s.kept ≡ Some plan → Optimal plan

-- the same selections are settled, and the same plan is kept
pub record Same (rules : List Rule) (s t : State) : Type 0 where
  pub settled : (ns : List ℕ) → Selection rules ns → s.settled ns ≡ t.settled ns
  pub kept : s.kept ≡ t.kept

module _ {C : Type 0} (way : Way C) (rules rules' : List Rule) where
  -- no plans, or plans of one price
  abbrev pub Agree : Option (List ℕ) → Option (List ℕ) → Type 0
  Agree None None = Unit {0}
  Agree None (Some plan') = ⊥
  Agree (Some plan) None = ⊥
  Agree (Some plan) (Some plan') = price way rules plan ≡ price way rules' plan'

-- in any search, nothing settled is feasible and cheaper than the plan
abbrev pub SettledNoCheaper : Type 0 → Type 0
SettledNoCheaper C =
    (way : Way C) → Laws way → (day : Day) (rules : List Rule) (k : ℕ) (s : State) → After way day rules k s → NoCheaper way day rules s

-- an ended search has the right verdict
abbrev pub EndedOptimal : Type 0 → Type 0
EndedOptimal C =
    (way : Way C) → Laws way → (day : Day) (rules : List Rule) → Fit day rules → (k : ℕ) (s : State) → After way day rules k s → Ended rules s
    → Verdict way day rules s

-- after as many steps, two searches of the same rules are in the same state
abbrev pub StepsDetermine : Type 0 → Type 0
StepsDetermine C =
    (way : Way C) (day : Day) (rules : List Rule) (k : ℕ) (s t : State) → After way day rules k s → After way day rules k t → Same rules s t

-- under the same rules in another order, each as often, a timetable costs the same and ended searches agree
pub record OrderDoesNotMatter {C : Type 0} (way : Way C) (day : Day) (rules rules' : List Rule) : Type 0 where
  pub costs : (T : ℕ → ℕ) (c : C) → Costs way T rules c → Costs way T rules' c
  pub ends : (k l : ℕ) (s t : State) → After way day rules k s → Ended rules s → After way day rules' l t → Ended rules' t
      → Agree way rules rules' s.kept t.kept

-- the order of the rules is free
abbrev pub OrderFree : Type 0 → Type 0
OrderFree C =
    (way : Way C) → Laws way → (day : Day) (rules rules' : List Rule) → IsPermutation rules rules' → OrderDoesNotMatter way day rules rules'

-- no search makes more steps than there are selections, one that runs has a next step, and so one comes to its end
pub record Ending {C : Type 0} (way : Way C) (day : Day) (rules : List Rule) : Type 0 where
  pub bound : (k : ℕ) (s : State) → After way day rules k s → k ≤ selections rules
  pub next : (s : State) → Running rules s → (t : State) × Step way day rules s t
  pub end : (k : ℕ) × (s : State) × After way day rules k s × Ended rules s

-- every search ends
abbrev pub Ends : Type 0 → Type 0
Ends C = (way : Way C) (day : Day) (rules : List Rule) → Fit day rules → Ending way day rules

-- of every feasible selection one timetable meets it that gives every event its smallest minute
abbrev pub SmallestTogether : Type 0
SmallestTogether =
    (day : Day) (rules : List Rule) (ns : List ℕ) → Fit day rules → Feasible day rules ns
    → (S : ℕ → ℕ) × Met day rules S ns × AllSmallest day rules ns S
