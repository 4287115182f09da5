-- Searches that go astray: what they do on a small book.
--   Above          a prefix costs more than the plan
--   HopelessAbove, HopefulAbove   what such a search calls hopeless
--   StepAbove     a step that calls a prefix hopeless only above the kept price
--   AfterAbove    the states after so many such steps
--   all_settled    a state that keeps a plan and calls everything settled
use Rattle.std.specs.Prelude.{◌≡◌, ℕ, zero, suc, ◌<◌, ◌≤◌, true, ◌⊎◌, List, length, take, Some, None, Option}
use Rattle.counting.specs.Ways.{Way, AtMost}
use Rattle.problem.specs.Rules.{Rule}
use Rattle.problem.specs.declared.day.Day.{Day}
use Rattle.search.specs.Selections.{Feasible, price}
use Rattle.search.specs.Searches.{State, First, Settles, Start}

module _ {C : Type 0} (way : Way C) (day : Day) (rules : List Rule) where
  -- the prefix costs more than the plan
  abbrev pub Above : Option (List ℕ) → List ℕ → Type 0
  Above None prefix = ⊥
  Above (Some plan) prefix = AtMost way (price way rules prefix) (price way rules plan) → ⊥

  -- no timetable meets the prefix, or it costs more than the plan
  abbrev pub HopelessAbove : State → List ℕ → Type 0
  HopelessAbove s prefix = (Feasible day rules prefix → ⊥) ⊎ Above s.kept prefix

  -- some timetable meets it, and it does not cost more
  abbrev pub HopefulAbove : State → List ℕ → Type 0
  HopefulAbove s prefix = Feasible day rules prefix × (Above s.kept prefix → ⊥)

  -- the step of a search, but for what is hopeless
  pub data StepAbove (s t : State) : Type 0 where
    skips : (ns : List ℕ) (j : ℕ) → First way day rules s ns → j ≤ length ns → HopelessAbove s (take j ns) → ((i : ℕ) → i < j → HopefulAbove s (take i ns)) → Settles way day rules (λ ms. take j ms ≡ take j ns) s t → t.kept ≡ s.kept → StepAbove s t
    keeps : (ns : List ℕ) → First way day rules s ns → ((i : ℕ) → i ≤ length ns → HopefulAbove s (take i ns)) → Settles way day rules (λ ms. ms ≡ ns) s t → t.kept ≡ Some ns → StepAbove s t

  -- so many such steps from the start
  abbrev pub AfterAbove : ℕ → State → Type 0
  AfterAbove zero s = Start way day rules s
  AfterAbove (suc k) t = (s : State) × AfterAbove k s × StepAbove s t

-- everything settled, with this plan
abbrev pub all_settled : List ℕ → State
all_settled plan = record { settled = λ ns. true; kept = Some plan }
