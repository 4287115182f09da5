-- What searches that go astray do.
use Rattle.std.proofs.Common.{ℕ, zero, suc, ◌<◌, false, List, [], ◌∷◌, take, refl, inl, inr, arith, lit≤}
use lib.Signed.{le_z_yes}
use Rattle.std.proofs.lemmas.Bool.{both_ways}
use Rattle.counting.specs.Three.{sum, sum_way}
use Rattle.problem.specs.Costs.{Costs}
use Rattle.problem.specs.Timetables.{minute}
use Rattle.search.specs.Searches.{State}
use Rattle.search.specs.Selections.{Feasible}
use Rattle.search.specs.Tests.{skipped, taken}
use Rattle.search.proofs.Choosing.{feasible_take}
use Rattle.search.proofs.Moves.{or_same}
use Rattle.search.proofs.Testing.{selects_selection}
use Rattle.certificates.specs.Certificates.{fresh}
use Rattle.certificates.proofs.Stepping.{first_true, enumeration_ends}
use Rattle.certificates.proofs.Testing.{met_true}
use Rattle.small_books.specs.Books.{two_events, dearer_first, twice_the_same}
use Rattle.small_books.specs.Variants.{HopefulAbove, StepAbove, AfterAbove}
use Rattle.small_books.specs.Theorems.{AboveTakesThree, FirstPlanIsNotProved}

-- a selection of two choices, or minutes of two events
abbrev pair : ℕ → ℕ → List ℕ
pair a b = a ∷ (b ∷ [])

abbrev one_step : State
one_step = taken (pair 0 0) fresh

abbrev two_steps : State
two_steps = skipped 2 (pair 0 1) one_step

abbrev three_steps : State
three_steps = skipped 1 (pair 1 0) two_steps

-- event 1 at minute 0 meets both wishes, and what begins so
feasible : (j : ℕ) → Feasible two_events twice_the_same (take j (pair 0 0))
feasible j = feasible_take two_events twice_the_same (pair 0 0) j (minute (pair 0 0), met_true two_events twice_the_same (pair 0 0) (pair 0 0) refl)

step_one : StepAbove sum_way two_events twice_the_same fresh one_step
step_one =
    StepAbove.keeps (pair 0 0) (first_true sum_way two_events twice_the_same fresh (pair 0 0) refl) (λ i l. (feasible i, λ h. h))
    (λ ms r. or_same false ms (pair 0 0)) refl

-- the prefixes of fewer than two choices are as cheap as the plan
shorter : (i : ℕ) → i < 2 → HopefulAbove sum_way two_events twice_the_same one_step (take i (pair 0 1))
shorter zero l = (feasible 0, λ h. h refl)
shorter (suc zero) l = (feasible 1, λ h. h refl)
shorter (suc (suc i)) l = absurd (omega arith)

step_two : StepAbove sum_way two_events twice_the_same one_step two_steps
step_two =
    StepAbove.skips (pair 0 1) 2 (first_true sum_way two_events twice_the_same one_step (pair 0 1) refl) (lit≤ tt) (inr (both_ways false refl)) shorter
    (λ ms r. or_same (one_step.settled ms) (take 2 ms) (pair 0 1)) refl

shortest : (i : ℕ) → i < 1 → HopefulAbove sum_way two_events twice_the_same two_steps (take i (pair 1 0))
shortest zero l = (feasible 0, λ h. h refl)
shortest (suc i) l = absurd (omega arith)

step_three : StepAbove sum_way two_events twice_the_same two_steps three_steps
step_three =
    StepAbove.skips (pair 1 0) 1 (first_true sum_way two_events twice_the_same two_steps (pair 1 0) refl) (lit≤ tt) (inr (both_ways false refl)) shortest
    (λ ms r. or_same (two_steps.settled ms) (take 1 ms) (1 ∷ [])) refl

after_one : AfterAbove sum_way two_events twice_the_same 1 one_step
after_one = (fresh, record { unsettled = λ ns r. refl; no_plan = refl }, step_one)

after_two : AfterAbove sum_way two_events twice_the_same 2 two_steps
after_two = (one_step, after_one, step_two)

pub above_takes_three : AboveTakesThree
above_takes_three = record {
  after_two = (two_steps, after_two, (pair 1 0, selects_selection twice_the_same (pair 1 0) refl, refl));
  after_three = (three_steps, (two_steps, after_two, step_three), enumeration_ends twice_the_same three_steps refl);
}

-- event 1 at minute 0 costs nothing
free : Costs sum_way (minute (pair 0 0)) dearer_first (sum_way.join sum_way.zero (sum 0))
free = record {
  each = sum 0 ∷ [];
  priced = (
    record { reached = inr (inl ((le_z_yes tt, le_z_yes tt), refl)); lowest = (λ _. refl, (λ _. refl, (λ _. refl, tt))) },
    tt,
  );
  joined = refl;
}

pub first_plan_is_not_proved : FirstPlanIsNotProved
first_plan_is_not_proved v =
    let cheaper = (v.optimal (0 ∷ []) refl).lowest (minute (pair 0 0)) _ (met_true two_events dearer_first (pair 0 0) (0 ∷ []) refl).0 free in
    both_ways false refl cheaper
