-- What a search tells of its state.
--   Plan          a plan is kept
--   TellsWord    when each word is told
--   kept_price    the price of the plan
--   gives_up      a choice gives its rule up
--   given_bits, given_word   which rules a selection, or the plan, gives up, as bits
--   Tells         what `outcome` tells: a word, a cost and the rules given up
--   Smallest      what `read` tells: the smallest minute of an event over the timetables that meet a selection
use Rattle.std.specs.Prelude.{◌≡◌, ℕ, ◌+◌, ◌*◌, ◌≤◌, Bool, cond, List, [], ◌∷◌, length, Some, None, Option, ◌==◌}
use Rattle.counting.specs.Ways.{Way}
use Rattle.problem.specs.Rules.{Rule}
use Rattle.problem.specs.declared.day.Day.{Day}
use Rattle.search.specs.Selections.{Met, price}
use Rattle.search.specs.Searches.{State, Running, Ended}
use Rattle.search.specs.declared.word.Word.{Word}
use Rattle.search.specs.declared.word.Word.TheVariants as word

-- a plan is kept
abbrev pub Plan : State → Type 0
Plan s = (ns : List ℕ) × (s.kept ≡ Some ns)

-- running or ended, without a plan or with one
abbrev pub TellsWord : List Rule → State → Word → Type 0
TellsWord rules s word.Open = Running rules s × (s.kept ≡ None)
TellsWord rules s word.Short = Running rules s × Plan s
TellsWord rules s word.None = Ended rules s × (s.kept ≡ None)
TellsWord rules s word.Proved = Ended rules s × Plan s

-- the price of the plan, or zero without one
abbrev pub kept_price : {C : Type 0} → Way C → List Rule → Option (List ℕ) → C
kept_price way rules None = way.zero
kept_price way rules (Some plan) = price way rules plan

-- giving up is the choice behind the options
abbrev pub gives_up : Rule → ℕ → Bool
gives_up r n = n == length r.options

-- bit r, which is worth 2 to the power r, is 1 where rule r is given up
abbrev pub given_bits : List Rule → List ℕ → ℕ
given_bits [] ns = 0
given_bits (r ∷ rules) [] = 0
given_bits (r ∷ rules) (n ∷ ns) = cond (gives_up r n) 1 0 + 2 * given_bits rules ns

-- the bits of the plan, or 0 without one
abbrev pub given_word : List Rule → Option (List ℕ) → ℕ
given_word rules None = 0
given_word rules (Some plan) = given_bits rules plan

-- the word, the price and the bits that a state has
pub record Tells {C : Type 0} (way : Way C) (rules : List Rule) (s : State) (word : Word) (cost : C) (given : ℕ) : Type 0 where
  pub word_is : TellsWord rules s word
  pub cost_is : cost ≡ kept_price way rules s.kept
  pub given_is : given ≡ given_word rules s.kept

-- some timetable that meets the selection puts event i at minute t, and none puts it earlier
pub record Smallest (day : Day) (rules : List Rule) (ns : List ℕ) (i t : ℕ) : Type 0 where
  pub reached : (T : ℕ → ℕ) × Met day rules T ns × (T i ≡ t)
  pub lowest : (T : ℕ → ℕ) → Met day rules T ns → t ≤ T i
