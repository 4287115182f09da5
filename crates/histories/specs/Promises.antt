-- What a planner is worth after any list of calls.
--   Best       minutes that are read of a search are optimal
--   Promise    what a search keeps to
--   Trusted    a search that a planner is in keeps to it
--   Agreeing   two ended searches of the same day and rules tell the same
use Rattle.std.specs.Prelude.{◌≡◌, ℕ, ◌<◌, ◌⊎◌, ◌↔◌, List}
use Rattle.std.specs.List.Sorted.{IsPermutation}
use Rattle.counting.specs.Ways.{Way, AtMost}
use Rattle.problem.specs.Costs.{Costs}
use Rattle.problem.specs.Rules.{Rule}
use Rattle.problem.specs.Timetables.{OfDay, Allowed}
use Rattle.problem.specs.declared.day.Day.{Day}
use Rattle.search.specs.Outcomes.{Tells}
use Rattle.search.specs.Searches.{State, Ended}
use Rattle.search.specs.Theorems.{NoneAllowed, NoCheaper}
use Rattle.search.specs.declared.word.Word.{Word}
use Rattle.search.specs.declared.word.Word.TheVariants as word
use Rattle.planner.specs.Calls.{Reads}
use Rattle.histories.specs.Histories.{View, drafting, searching}

module _ {C : Type 0} (way : Way C) where
  -- S has the minutes that are read of all events
  abbrev pub ReadAll : Day → List Rule → State → (ℕ → ℕ) → Type 0
  ReadAll day rules s S = (i : ℕ) → i < day.events → Reads day rules s i (S i)

  -- they are an allowed timetable that costs the told cost, and no allowed timetable costs less
  pub record Best (day : Day) (rules : List Rule) (s : State) (cost : C) : Type 0 where
    pub minutes : (S : ℕ → ℕ) × ReadAll day rules s S
    pub timetable : (S : ℕ → ℕ) → ReadAll day rules s S → OfDay day S
    pub allowed : (S : ℕ → ℕ) → ReadAll day rules s S → Allowed S rules
    pub costs : (S : ℕ → ℕ) → ReadAll day rules s S → Costs way S rules cost
    pub lowest : (T : ℕ → ℕ) (c : C) → OfDay day T → Costs way T rules c → AtMost way cost c

  -- of any search, and of what `outcome` tells of one that has ended
  pub record Promise (day : Day) (rules : List Rule) (s : State) : Type 0 where
    pub no_cheaper : NoCheaper way day rules s
    pub ended_word : Ended rules s → (w : Word) (cost : C) (given : ℕ) → Tells way rules s w cost given → (w ≡ word.None) ⊎ (w ≡ word.Proved)
    pub none : Ended rules s → (w : Word) (cost : C) (given : ℕ) → Tells way rules s w cost given → (w ≡ word.None) ↔ NoneAllowed day rules
    pub proved : Ended rules s → (w : Word) (cost : C) (given : ℕ) → Tells way rules s w cost given → w ≡ word.Proved → Best day rules s cost

  abbrev pub Trusted : View → Type 0
  Trusted (drafting day rules) = Unit {0}
  Trusted (searching day rules s) = Promise day rules s

  -- both tell NONE, or both PROVED with equal costs
  abbrev pub SameVerdict : Word → C → Word → C → Type 0
  SameVerdict w c w' c' = ((w ≡ word.None) × (w' ≡ word.None)) ⊎ ((w ≡ word.Proved) × (w' ≡ word.Proved) × (c ≡ c'))

  -- ended searches of equal days and of the same rules, each as often, in any order
  abbrev pub Agreeing : View → View → Type 0
  Agreeing (drafting day rules) v = Unit {0}
  Agreeing (searching day rules s) (drafting day' rules') = Unit {0}
  Agreeing (searching day rules s) (searching day' rules' s') =
      day ≡ day' → IsPermutation rules rules' → Ended rules s → Ended rules' s'
      → (w w' : Word) (c c' : C) (given given' : ℕ) → Tells way rules s w c given → Tells way rules' s' w' c' given' → SameVerdict w c w' c'
