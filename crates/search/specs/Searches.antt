-- What a search does, step by step.
--   State                the selections that are settled, and the plan that is kept
--   Settled, Unsettled   of a selection in a state
--   Outdone              the kept plan costs at most as much as a prefix
--   Hopeless, Hopeful    whether a prefix can still lead to a better plan
--   First                the first unsettled selection
--   Settles              which selections a step settles
--   Skips                a step that settles all selections with a hopeless prefix
--   Keeps                a step that keeps a plan
--   Step                 one step
--   Start                the state of a search in which no step was made
--   Steps                so many steps from one state to another
--   After                the states after so many steps from the start
--   Running, Ended       whether some selection is unsettled, or every one settled
use Rattle.std.specs.Prelude.{◌≡◌, ℕ, zero, suc, ◌<◌, ◌≤◌, Bool, true, false, ◌⊎◌, ◌↔◌, List, length, take, Some, None, Option}
use Rattle.counting.specs.Ways.{Way, AtMost}
use Rattle.problem.specs.Rules.{Rule}
use Rattle.problem.specs.declared.day.Day.{Day}
use Rattle.search.specs.Selections.{Selection, Before, Feasible, price}

-- which selections are settled, and the selection that is kept as the plan
pub record State : Type 0 where
  pub settled : List ℕ → Bool
  pub kept : Option (List ℕ)

abbrev pub Settled : State → List ℕ → Type 0
Settled s ns = s.settled ns ≡ true

abbrev pub Unsettled : State → List ℕ → Type 0
Unsettled s ns = s.settled ns ≡ false

module _ {C : Type 0} (way : Way C) (day : Day) (rules : List Rule) where
  -- a plan is kept, and its price is at most that of the prefix
  abbrev pub Outdone : Option (List ℕ) → List ℕ → Type 0
  Outdone None prefix = ⊥
  Outdone (Some plan) prefix = AtMost way (price way rules plan) (price way rules prefix)

  -- no timetable meets the prefix, or the kept plan outdoes it
  abbrev pub Hopeless : State → List ℕ → Type 0
  Hopeless s prefix = (Feasible day rules prefix → ⊥) ⊎ Outdone s.kept prefix

  -- some timetable meets the prefix, and no kept plan outdoes it
  abbrev pub Hopeful : State → List ℕ → Type 0
  Hopeful s prefix = Feasible day rules prefix × (Outdone s.kept prefix → ⊥)

  -- an unsettled selection, all before it being settled
  pub record First (s : State) (ns : List ℕ) : Type 0 where
    pub selection : Selection rules ns
    pub unsettled : Unsettled s ns
    pub earlier : (ms : List ℕ) → Selection rules ms → Before ms ns → Settled s ms

  -- in t the selections are settled that were in s, and those in P; no others
  abbrev pub Settles : (List ℕ → Type 0) → State → State → Type 0
  Settles P s t = (ms : List ℕ) → Selection rules ms → Settled t ms ↔ (Settled s ms ⊎ P ms)

  -- j is the least length of a hopeless prefix of ns; all selections with that prefix become settled
  pub record Skips (ns : List ℕ) (s t : State) : Type 0 where
    pub j : ℕ
    pub within : j ≤ length ns
    pub hopeless : Hopeless s (take j ns)
    pub shortest : (i : ℕ) → i < j → Hopeful s (take i ns)
    pub settles : Settles (λ ms. take j ms ≡ take j ns) s t
    pub same_plan : t.kept ≡ s.kept

  -- ns has no hopeless prefix; it becomes the plan, and it alone becomes settled
  pub record Keeps (ns : List ℕ) (s t : State) : Type 0 where
    pub hopeful : (i : ℕ) → i ≤ length ns → Hopeful s (take i ns)
    pub settles : Settles (λ ms. ms ≡ ns) s t
    pub new_plan : t.kept ≡ Some ns

  -- the first unsettled selection leads from s to t
  pub record Step (s t : State) : Type 0 where
    pub ns : List ℕ
    pub first : First s ns
    pub does : Skips ns s t ⊎ Keeps ns s t

  -- k steps lead from s to t
  abbrev pub Steps : State → ℕ → State → Type 0
  Steps s zero t = s ≡ t
  Steps s (suc k) t = (u : State) × Steps s k u × Step u t

  -- nothing is settled, and no plan is kept
  pub record Start (s : State) : Type 0 where
    pub unsettled : (ns : List ℕ) → Selection rules ns → Unsettled s ns
    pub no_plan : s.kept ≡ None

  -- s is reached by k steps from the start
  abbrev pub After : ℕ → State → Type 0
  After zero s = Start s
  After (suc k) t = (s : State) × After k s × Step s t

module _ (rules : List Rule) where
  -- some selection is unsettled
  abbrev pub Running : State → Type 0
  Running s = (ns : List ℕ) × Selection rules ns × Unsettled s ns

  -- every selection is settled
  abbrev pub Ended : State → Type 0
  Ended s = (ns : List ℕ) → Selection rules ns → Settled s ns
