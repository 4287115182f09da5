-- How the searches of the small books end.
use Rattle.std.specs.Prelude.{[], ◌∷◌}
use Rattle.counting.specs.Three.{sum_way, worst_way, tier_way}
use Rattle.example.specs.Example.{example_rules}
use Rattle.search.specs.Searches.{State, Running, Ended}
use Rattle.search.specs.Theorems.{Verdict}
use Rattle.search.specs.declared.word.Word.TheVariants as word
use Rattle.small_books.specs.Books.{two_events, three_events, four_events, moment, five_and_six, exactly, together, round_robin, two_against_one, breach_or_points, dearer_first, twice_the_same}
use Rattle.small_books.specs.Ends.{Keeping, Without}
use Rattle.small_books.specs.Variants.{AfterAbove, all_settled}

-- the example: PROVED, 0 and 10, minutes 0, 15, 0, after six steps
abbrev pub ExampleEnds : Type 0
ExampleEnds = Keeping sum_way three_events example_rules 6 word.Proved 0 10 0 (0 ∷ (15 ∷ (0 ∷ [])))

-- one event and no rules: one step
abbrev pub NothingToPlan : Type 0
NothingToPlan = Keeping sum_way moment [] 1 word.Proved 0 0 0 (0 ∷ [])

-- two firm rules that exclude each other: NONE, one step
abbrev pub ExcludingRules : Type 0
ExcludingRules = Without sum_way two_events five_and_six 1

-- the last minute of the day, and the one behind it
pub record EdgeOfTheDay : Type 0 where
  pub last_minute : Keeping sum_way two_events (exactly 60) 1 word.Proved 0 0 0 (0 ∷ (60 ∷ []))
  pub too_late : Without sum_way two_events (exactly 61) 1

-- two events at once, as early as can be
abbrev pub EventsAtOnce : Type 0
EventsAtOnce = Keeping sum_way three_events together 1 word.Proved 0 0 0 (0 ∷ (3 ∷ (3 ∷ [])))

-- three events, each after the next: NONE
abbrev pub RingOfGaps : Type 0
RingOfGaps = Without sum_way four_events round_robin 1

-- SUM gives up the one wish, WORST the two
pub record TwoAgainstOne : Type 0 where
  pub by_sum : Keeping sum_way two_events two_against_one 7 word.Proved 0 6 4 (0 ∷ (10 ∷ []))
  pub by_worst : Keeping worst_way two_events two_against_one 8 word.Proved 0 4 3 (0 ∷ (0 ∷ []))

-- TIER shuns the breach, SUM does not see it
pub record BreachOrPoints : Type 0 where
  pub by_tier : Keeping tier_way two_events breach_or_points 3 word.Proved 0 500 2 (0 ∷ (0 ∷ []))
  pub by_sum : Keeping sum_way two_events breach_or_points 4 word.Proved 0 0 1 (0 ∷ (10 ∷ []))

-- the first plan is not the best: SHORT with 5 after one step, PROVED with 0 after three
pub record DearerFirst : Type 0 where
  pub short : Keeping sum_way two_events dearer_first 1 word.Short 0 5 0 (0 ∷ (0 ∷ []))
  pub proved : Keeping sum_way two_events dearer_first 3 word.Proved 0 0 0 (0 ∷ (0 ∷ []))

-- a plan of price zero ends the search with the next step
abbrev pub FreePlanEnds : Type 0
FreePlanEnds = Keeping sum_way two_events twice_the_same 2 word.Proved 0 0 0 (0 ∷ (0 ∷ []))

-- hopeless only above the kept price: the same book is still running after two steps, and takes three
pub record AboveTakesThree : Type 0 where
  pub after_two : (s : State) × AfterAbove sum_way two_events twice_the_same 2 s × Running twice_the_same s
  pub after_three : (s : State) × AfterAbove sum_way two_events twice_the_same 3 s × Ended twice_the_same s

-- the first plan, with everything called settled, is not what an ended search keeps
abbrev pub FirstPlanIsNotProved : Type 0
FirstPlanIsNotProved = Verdict sum_way two_events dearer_first (all_settled (0 ∷ [])) → ⊥
