-- The steps of the small books, as certificates.
use Rattle.std.proofs.Common.{ℕ, List, [], ◌∷◌, pos, neg_ℤ, refl}
use Rattle.counting.specs.Three.{sum_way, worst_way, tier_way}
use Rattle.network.specs.declared.limit.Limit.{Limit}
use Rattle.example.specs.Example.{example_rules}
use Rattle.certificates.specs.Certificates.{Certificate, clash, dear, keep}
use Rattle.small_books.specs.Books.{two_events, three_events, four_events, moment, five_and_six, exactly, together, round_robin, two_against_one, breach_or_points, dearer_first, twice_the_same}
use Rattle.small_books.specs.Theorems.{ExampleEnds, NothingToPlan, ExcludingRules, EdgeOfTheDay, EventsAtOnce, RingOfGaps, TwoAgainstOne, BreachOrPoints, DearerFirst, FreePlanEnds}
use Rattle.small_books.proofs.Reading.{proved, short, without}

-- event x comes at most b minutes after event y
abbrev at_most : ℕ → ℕ → ℕ → Limit
at_most x y b = record { x = x; y = y; bound = pos b }

-- event x comes at least b minutes before event y
abbrev ahead : ℕ → ℕ → ℕ → Limit
ahead x y b = record { x = x; y = y; bound = neg_ℤ (pos b) }

abbrev one : ℕ → List ℕ
one a = a ∷ []

abbrev two : ℕ → ℕ → List ℕ
two a b = a ∷ (b ∷ [])

abbrev three : ℕ → ℕ → ℕ → List ℕ
three a b c = a ∷ (b ∷ (c ∷ []))

abbrev example_steps : List Certificate
example_steps =
    clash (three 0 0 0) 3 (three 0 15 0) 0 (at_most 1 0 5 ∷ (ahead 2 1 15 ∷ (ahead 0 2 0 ∷ [])))
    ∷ (keep (three 0 0 1) (three 0 15 0)
    ∷ (dear (three 0 0 2) 3 (three 0 15 0)
    ∷ (dear (three 0 1 0) 2 (three 0 15 0)
    ∷ (clash (three 1 0 0) 2 (three 0 0 15) 0 (at_most 2 0 10 ∷ (ahead 1 2 15 ∷ (ahead 0 1 0 ∷ [])))
    ∷ (dear (three 1 1 0) 2 (three 0 0 15) ∷ [])))))

pub example_ends : ExampleEnds
example_ends =
    proved sum_way three_events example_rules example_steps refl (three 0 0 1) (three 0 15 0)
    ([] ∷ ((ahead 2 1 15 ∷ (ahead 0 2 0 ∷ [])) ∷ ((ahead 0 2 0 ∷ []) ∷ []))) refl refl refl

pub nothing_to_plan : NothingToPlan
nothing_to_plan = proved sum_way moment [] (keep [] (one 0) ∷ []) refl [] (one 0) ([] ∷ []) refl refl refl

pub excluding_rules : ExcludingRules
excluding_rules = without sum_way two_events five_and_six (clash (two 0 0) 2 (two 0 5) 0 (at_most 1 0 5 ∷ (ahead 0 1 6 ∷ [])) ∷ []) refl refl refl

pub edge_of_the_day : EdgeOfTheDay
edge_of_the_day = record {
  last_minute = proved sum_way two_events (exactly 60) (keep (one 0) (two 0 60) ∷ []) refl (one 0) (two 0 60) ([] ∷ ((ahead 0 1 60 ∷ []) ∷ [])) refl refl refl;
  too_late = without sum_way two_events (exactly 61) (clash (one 0) 1 (two 0 0) 0 (at_most 1 0 60 ∷ (ahead 0 1 61 ∷ [])) ∷ []) refl refl refl;
}

pub events_at_once : EventsAtOnce
events_at_once =
    proved sum_way three_events together (keep (two 0 0) (three 0 3 3) ∷ []) refl (two 0 0) (three 0 3 3)
    ([] ∷ ((ahead 2 1 0 ∷ (ahead 0 2 3 ∷ [])) ∷ ((ahead 0 2 3 ∷ []) ∷ []))) refl refl refl

pub ring_of_gaps : RingOfGaps
ring_of_gaps =
    without sum_way four_events round_robin
    (clash (three 0 0 0) 3 (0 ∷ three 2 1 0) 1 (ahead 2 1 1 ∷ (ahead 3 2 1 ∷ (ahead 1 3 1 ∷ []))) ∷ []) refl refl refl

-- event 1 cannot be at 0 and at 10
abbrev torn : List Limit
torn = at_most 1 0 0 ∷ (ahead 0 1 10 ∷ [])

abbrev sum_steps : List Certificate
sum_steps =
    clash (three 0 0 0) 3 (two 0 10) 0 torn
    ∷ (keep (three 0 0 1) (two 0 10)
    ∷ (clash (three 0 1 0) 3 (two 0 10) 0 torn
    ∷ (dear (three 0 1 1) 3 (two 0 10)
    ∷ (clash (three 1 0 0) 3 (two 0 10) 0 torn
    ∷ (dear (three 1 0 1) 3 (two 0 10)
    ∷ (dear (three 1 1 0) 2 (two 0 10) ∷ []))))))

abbrev worst_steps : List Certificate
worst_steps =
    clash (three 0 0 0) 3 (two 0 10) 0 torn
    ∷ (keep (three 0 0 1) (two 0 10)
    ∷ (clash (three 0 1 0) 3 (two 0 10) 0 torn
    ∷ (dear (three 0 1 1) 3 (two 0 10)
    ∷ (clash (three 1 0 0) 3 (two 0 10) 0 torn
    ∷ (dear (three 1 0 1) 3 (two 0 10)
    ∷ (keep (three 1 1 0) (two 0 0)
    ∷ (dear (three 1 1 1) 1 (two 0 0) ∷ [])))))))

pub two_against_one_ends : TwoAgainstOne
two_against_one_ends = record {
  by_sum = proved sum_way two_events two_against_one sum_steps refl (three 0 0 1) (two 0 10) ([] ∷ ((ahead 0 1 10 ∷ []) ∷ [])) refl refl refl;
  by_worst = proved worst_way two_events two_against_one worst_steps refl (three 1 1 0) (two 0 0) ([] ∷ ((ahead 0 1 0 ∷ []) ∷ [])) refl refl refl;
}

abbrev tier_steps : List Certificate
tier_steps = clash (two 0 0) 2 (two 0 0) 0 torn ∷ (keep (two 0 1) (two 0 0) ∷ (dear (two 1 0) 1 (two 0 0) ∷ []))

abbrev points_steps : List Certificate
points_steps =
    clash (two 0 0) 2 (two 0 0) 0 torn ∷ (keep (two 0 1) (two 0 0) ∷ (keep (two 1 0) (two 0 10) ∷ (dear (two 1 1) 0 (two 0 10) ∷ [])))

pub breach_or_points_ends : BreachOrPoints
breach_or_points_ends = record {
  by_tier = proved tier_way two_events breach_or_points tier_steps refl (two 0 1) (two 0 0) ([] ∷ ((ahead 0 1 0 ∷ []) ∷ [])) refl refl refl;
  by_sum = proved sum_way two_events breach_or_points points_steps refl (two 1 0) (two 0 10) ([] ∷ ((ahead 0 1 10 ∷ []) ∷ [])) refl refl refl;
}

pub dearer_first_ends : DearerFirst
dearer_first_ends = record {
  short = short sum_way two_events dearer_first (keep (one 0) (two 0 0) ∷ []) refl (one 0) (two 0 0) ([] ∷ ((ahead 0 1 0 ∷ []) ∷ [])) refl refl (one 1) refl refl;
  proved = proved sum_way two_events dearer_first (keep (one 0) (two 0 0) ∷ (keep (one 1) (two 0 0) ∷ (dear (one 2) 0 (two 0 0) ∷ []))) refl (one 1) (two 0 0) ([] ∷ ((ahead 0 1 0 ∷ []) ∷ [])) refl refl refl;
}

pub free_plan_ends : FreePlanEnds
free_plan_ends =
    proved sum_way two_events twice_the_same (keep (two 0 0) (two 0 0) ∷ (dear (two 0 1) 0 (two 0 0) ∷ [])) refl (two 0 0) (two 0 0)
    ([] ∷ ((ahead 0 1 0 ∷ []) ∷ [])) refl refl refl
