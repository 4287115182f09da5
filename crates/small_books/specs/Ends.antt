-- How the search of a small book ends.
--   Keeping      after so many steps, with a plan: word, cost as shown, given-up word and smallest minutes
--   Without      after so many steps, with the word NONE
use Rattle.std.specs.Prelude.{◌≡◌, ℕ, List, Some}
use Rattle.counting.specs.Ways.{Way}
use Rattle.problem.specs.Rules.{Rule}
use Rattle.problem.specs.Timetables.{minute}
use Rattle.problem.specs.declared.day.Day.{Day}
use Rattle.search.specs.Outcomes.{Tells}
use Rattle.search.specs.Searches.{State, After}
use Rattle.search.specs.Theorems.{AllSmallest}
use Rattle.search.specs.declared.word.Word.{Word}
use Rattle.search.specs.declared.word.Word.TheVariants as word

module _ {C : Type 0} (way : Way C) (day : Day) (rules : List Rule) (steps : ℕ) where
  -- the plan costs what is shown as a and b, gives up what `given` says, and has these smallest minutes
  pub record Keeping (w : Word) (a b given : ℕ) (minutes : List ℕ) : Type 0 where
    pub state : State
    pub after : After way day rules steps state
    pub plan : List ℕ
    pub kept : state.kept ≡ Some plan
    pub cost : C
    pub tells : Tells way rules state w cost given
    pub shown : way.shown cost ≡ record { first = a; second = b }
    pub smallest : AllSmallest day rules plan (minute minutes)

  -- the search has ended, and no plan is kept
  pub record Without : Type 0 where
    pub state : State
    pub after : After way day rules steps state
    pub tells : Tells way rules state word.None way.zero 0
