-- The words of a search as tests that compute, and the states that steps lead to.
--   every          whether a test passes on every element
--   chosen         whether a timetable meets a choice
--   selects        whether numbers are a selection
--   before         whether one list of numbers stands before another
--   same_numbers   whether two lists have the same numbers
--   skipped        the state after a step that settles all selections with a prefix
--   taken          the state after a step that keeps a plan
use Rattle.std.specs.Prelude.{ℕ, Bool, true, false, ◌&&◌, ◌||◌, List, [], ◌∷◌, length, take, Some, ◌==◌, int_le, nat_lt}
use Rattle.std.specs.List.{list_all}
use Rattle.problem.specs.Rules.{Rule}
use Rattle.problem.specs.Timetables.{Choice, option, give_up, choices, gap}
use Rattle.search.specs.Searches.{State}

-- the test passes on each
abbrev pub every : {X : Type 0} → (X → Bool) → List X → Bool
every p xs = list_all p xs

-- as `Chosen`
abbrev pub chosen : (ℕ → ℕ) → Choice → Bool
chosen T (option d) = int_le d.lo (gap T d.x d.y) && int_le (gap T d.x d.y) d.hi
chosen T (give_up p) = true

-- as `Selection`
abbrev pub selects : List Rule → List ℕ → Bool
selects [] [] = true
selects [] (n ∷ ns) = false
selects (r ∷ rules) [] = false
selects (r ∷ rules) (n ∷ ns) = nat_lt n (length (choices r)) && selects rules ns

-- as `Before`
abbrev pub before : List ℕ → List ℕ → Bool
before [] ns = false
before (m ∷ ms) [] = false
before (m ∷ ms) (n ∷ ns) = nat_lt m n || (m == n && before ms ns)

-- equal lists
abbrev pub same_numbers : List ℕ → List ℕ → Bool
same_numbers [] [] = true
same_numbers [] (n ∷ ns) = false
same_numbers (m ∷ ms) [] = false
same_numbers (m ∷ ms) (n ∷ ns) = m == n && same_numbers ms ns

-- all selections that begin as ns does, for j choices, are settled too
abbrev pub skipped : ℕ → List ℕ → State → State
skipped j ns s = record { settled = λ ms. s.settled ms || same_numbers (take j ms) (take j ns); kept = s.kept }

-- ns is settled too, and is the plan
abbrev pub taken : List ℕ → State → State
taken ns s = record { settled = λ ms. s.settled ms || same_numbers ms ns; kept = Some ns }
