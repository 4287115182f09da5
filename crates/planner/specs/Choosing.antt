-- Choices as the program reads them.
--   as_option   the option that a choice takes, if it takes one
--   width_at    how many choices the rule at a place has
--   rules_in    the rules of a selection's problem
--   choice_in   the choice that a selection picks for the rule at a place
--   Choices     the numbers of choices, as the program holds them
use Rattle.std.specs.Prelude.{ℕ, zero, suc, List, [], ◌∷◌, length, Some, None, Option, slice_index_or}
use Rattle.arrayvec.specs.ArrayVec.{ArrayVec}
use Rattle.problem.specs.Problems.{rules_of}
use Rattle.problem.specs.Rules.{Rule}
use Rattle.problem.specs.Timetables.{Choice, option, give_up, choices}
use Rattle.problem.specs.declared.constraint.Disjunct.{Disjunct}
use Rattle.search.specs.Selections.{no_choice, picked}
use Rattle.planner.specs.declared.selection.Selection.{Selection}

-- none for giving up
abbrev pub as_option : Choice → Option Disjunct
as_option (option d) = Some d
as_option (give_up p) = None

-- 0 where there is no rule
abbrev pub width_at : List Rule → ℕ → ℕ
width_at [] i = 0
width_at (r ∷ rules) zero = length (choices r)
width_at (r ∷ rules) (suc i) = width_at rules i

-- in their order
abbrev pub rules_in : Selection → List Rule
rules_in s = rules_of s.problem.now

-- no choice where there is no rule
abbrev pub choice_in : Selection → ℕ → Choice
choice_in s i = slice_index_or (picked (rules_in s) s.choices.now) i no_choice

-- in rule order
abbrev pub Choices : Type 0
Choices = ArrayVec ℕ
