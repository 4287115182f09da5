-- Small books: days with a few rules, whose searches can be followed by hand.
--   hour                                           a day with the horizon at minute 60
--   two_events, three_events, four_events, moment  the days
--   first_at, firmly                               to write rules with
--   five_and_six, exactly, together, round_robin, two_against_one, breach_or_points, dearer_first, twice_the_same
--                                                  the rules of the books
use Rattle.std.specs.Prelude.{ℕ, ◌≤◌, List, [], ◌∷◌, pos}
use Rattle.std.proofs.Common.{lit≤}
use Rattle.problem.specs.Rules.{Rule}
use Rattle.problem.specs.declared.constraint.Disjunct.{Disjunct}
use Rattle.problem.specs.declared.constraint.Kind.TheVariants.{Firm, Wish}
use Rattle.problem.specs.declared.day.Day.{Day}
use Rattle.example.specs.Example.{gap, stated, wish_for}

-- so many events up to minute 60
abbrev pub hour : (n : ℕ) → 1 ≤ n → n ≤ 32 → Day
hour n some few = record { events = n; horizon = 60; some = some; few = few; week = lit≤ tt }

abbrev pub two_events : Day
two_events = hour 2 (lit≤ tt) (lit≤ tt)

abbrev pub three_events : Day
three_events = hour 3 (lit≤ tt) (lit≤ tt)

abbrev pub four_events : Day
four_events = hour 4 (lit≤ tt) (lit≤ tt)

-- one event, at minute 0
abbrev pub moment : Day
moment = record { events = 1; horizon = 0; some = lit≤ tt; few = lit≤ tt; week = lit≤ tt }

-- event 1 comes lo to hi minutes after the start, for p points
abbrev pub first_at : ℕ → ℕ → ℕ → Disjunct
first_at lo hi p = gap 1 0 (pos lo) (pos hi) p

-- a firm rule of one option
abbrev pub firmly : Disjunct → Rule
firmly d = stated Firm (d ∷ [])

-- event 1 at minute 5, and at minute 6
abbrev pub five_and_six : List Rule
five_and_six = firmly (first_at 5 5 0) ∷ (firmly (first_at 6 6 0) ∷ [])

-- event 1 at minute m
abbrev pub exactly : ℕ → List Rule
exactly m = firmly (first_at m m 0) ∷ []

-- events 1 and 2 together, and event 2 at 3 to 9
abbrev pub together : List Rule
together = firmly (gap 1 2 (pos 0) (pos 0) 0) ∷ (firmly (gap 2 0 (pos 3) (pos 9) 0) ∷ [])

-- event 1 after 2, 2 after 3, and 3 after 1
abbrev pub round_robin : List Rule
round_robin = firmly (gap 1 2 (pos 1) (pos 60) 0) ∷ (firmly (gap 2 3 (pos 1) (pos 60) 0) ∷ (firmly (gap 3 1 (pos 1) (pos 60) 0) ∷ []))

-- event 1 at 10, wished twice, or at 0
abbrev pub two_against_one : List Rule
two_against_one =
    stated (wish_for 4) (first_at 10 10 0 ∷ [])
    ∷ (stated (wish_for 4) (first_at 10 10 0 ∷ []) ∷ (stated (wish_for 6) (first_at 0 0 0 ∷ []) ∷ []))

-- event 1 at 0, on pain of a breach, or at 10, on pain of 500 points
abbrev pub breach_or_points : List Rule
breach_or_points =
    stated (Wish (record { breaches = 1; points = 0 })) (first_at 0 0 0 ∷ []) ∷ (stated (wish_for 500) (first_at 10 10 0 ∷ []) ∷ [])

-- event 1 at 0 to 10 for 5 points, or at 0 for nothing
abbrev pub dearer_first : List Rule
dearer_first = stated (wish_for 9) (first_at 0 10 5 ∷ (first_at 0 0 0 ∷ [])) ∷ []

-- event 1 at 0, wished twice
abbrev pub twice_the_same : List Rule
twice_the_same = stated (wish_for 4) (first_at 0 0 0 ∷ []) ∷ (stated (wish_for 4) (first_at 0 0 0 ∷ []) ∷ [])
