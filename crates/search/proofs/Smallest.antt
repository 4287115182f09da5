-- Which prefixes are feasible can be told, and the smallest minutes of a feasible one meet it together.
use Rattle.std.proofs.Common.{ℕ, suc, ◌<◌, ◌≤◌, ◌⊎◌, List, [], ◌∷◌, subst, inl, inr, le_refl, arith}
use Rattle.std.specs.List.{AllByRecursion}
use Rattle.std.proofs.lemmas.Bool.{cases_lt}
use Rattle.problem.specs.Rules.{Rule}
use Rattle.problem.specs.Timetables.{Choice, Chosen}
use Rattle.problem.specs.declared.day.Day.{Day}
use Rattle.network.proofs.Solutions.{smallest_solve}
use Rattle.search.specs.Selections.{picked, Fit, Met, Feasible}
use Rattle.search.specs.Limiting.{prefix_net}
use Rattle.search.specs.Outcomes.{Smallest}
use Rattle.search.specs.Theorems.{AllSmallest}
use Rattle.search.proofs.Choosing.{met_or_not}
use Rattle.search.proofs.Limiting.{met_solves, solves_met, fit_sound, prefix_lawful, all_chosen_local}
use Rattle.search.proofs.Timetables.{Decided, least_number, some_timetable}

all_met_or_not : (T : ℕ → ℕ) (chs : List Choice) → Decided (AllByRecursion (Chosen T) chs)
all_met_or_not T [] = inl tt
all_met_or_not T (ch ∷ chs) =
    elim (met_or_not T ch) [
      | inl h ↦ elim (all_met_or_not T chs) [ inl k ↦ inl (h, k) | inr n ↦ inr (λ m. n m.1) ]
      | inr n ↦ inr (λ m. n m.0)
    ]

module _ (day : Day) (rules : List Rule) (fit : Fit day rules) where
  -- whether some timetable meets a prefix
  pub feasible_or_not : (prefix : List ℕ) → Decided (Feasible day rules prefix)
  feasible_or_not prefix =
      elim (some_timetable day (λ T. AllByRecursion (Chosen T) (picked rules prefix)) (λ T. all_met_or_not T (picked rules prefix))
      (λ T U same h. all_chosen_local day T U same (picked rules prefix) (fit_sound day rules prefix fit) h)) [
        | inl t ↦ inl (t.0, (t.1, t.2))
        | inr n ↦ inr (λ f. n f.0 f.1.0 f.1.1)
      ]

  module _ (ns : List ℕ) (feasible : Feasible day rules ns) where
    -- some timetable that meets ns puts event i at minute t or earlier
    abbrev By : ℕ → ℕ → Type 0
    By i t = (T : ℕ → ℕ) × Met day rules T ns × (T i ≤ t)

    by_or_not : (i : ℕ) → i < day.events → (t : ℕ) → (By i t → ⊥) ⊎ By i t
    by_or_not i l t =
        elim (some_timetable day (λ T. AllByRecursion (Chosen T) (picked rules ns) × (T i ≤ t))
        (λ T. elim (all_met_or_not T (picked rules ns)) [
          | inl h ↦ elim (cases_lt t (T i)) [ inl late ↦ inr (λ m. let early : T i ≤ t = m.1 in omega arith) | inr early ↦ inl (h, early) ]
          | inr n ↦ inr (λ m. n m.0)
        ])
        (λ T U same h. (all_chosen_local day T U same (picked rules ns) (fit_sound day rules ns fit) h.0, subst (λ m. m ≤ t) (same i l) h.1))) [
          | inl s ↦ inr (s.0, (s.1, s.2.0), s.2.1)
          | inr n ↦ inl (λ s. n s.0 s.1.0 (s.1.1, s.2))
        ]

    -- the first minute by which some timetable that meets ns has event i
    smallest_from : (i j : ℕ) → By i j → ((t : ℕ) → t < j → By i t → ⊥) → Smallest day rules ns i j
    smallest_from i j (T, m, early) none = record {
      reached = (T, m, elim (cases_lt (T i) j) [ inl l ↦ absurd (none (T i) l (T, m, le_refl (T i))) | inr l ↦ omega arith ]);
      lowest = λ U k. elim (cases_lt (U i) j) [ inl l ↦ absurd (none (U i) l (U, k, le_refl (U i))) | inr l ↦ l ];
    }

    smallest : (i : ℕ) → i < day.events → (t : ℕ) × Smallest day rules ns i t
    smallest i l =
        elim (least_number (λ t. By i t → ⊥) (By i) (by_or_not i l) (suc day.horizon)) [
          | inl n ↦ absurd (n day.horizon (le_refl (suc day.horizon)) (feasible.0, feasible.1, feasible.1.0.1 i l))
          | inr f ↦ (f.0, smallest_from i f.0 f.2 f.3)
        ]

    -- for every number, and the smallest minute where it is an event
    smallest_if : (i : ℕ) → (t : ℕ) × (i < day.events → Smallest day rules ns i t)
    smallest_if i =
        elim (cases_lt i day.events) [
          | inl l ↦ ((smallest i l).0, λ k. (smallest i l).1)
          | inr l ↦ (0, λ k. absurd (let late : i < day.events = k in omega arith))
        ]

    pub smallest_minutes : (S : ℕ → ℕ) × AllSmallest day rules ns S
    smallest_minutes = (λ i. (smallest_if i).0, λ i. (smallest_if i).1)

  -- minutes that are smallest for every event meet the selection together
  pub smallest_meet : (ns : List ℕ) (S : ℕ → ℕ) → AllSmallest day rules ns S → Met day rules S ns
  smallest_meet ns S least =
      solves_met day rules S ns
      (smallest_solve (prefix_net day rules ns) S (prefix_lawful day rules ns fit)
      (λ i l. record {
        reached = ((least i l).reached.0, met_solves day rules (least i l).reached.0 ns (least i l).reached.1, (least i l).reached.2);
        lowest = λ T s. (least i l).lowest T (solves_met day rules T ns s);
      }))
