-- The states that steps lead to.
use Rattle.std.proofs.Common.{◌≡◌, ℕ, ◌<◌, ◌≤◌, Bool, true, ◌||◌, ◌⊎◌, ◌↔◌, List, length, take, refl}
use Rattle.std.proofs.lemmas.Bool.Decides.{Decides-or}
use Rattle.counting.specs.Ways.{Way}
use Rattle.problem.specs.Rules.{Rule}
use Rattle.problem.specs.declared.day.Day.{Day}
use Rattle.search.specs.Searches.{State, Hopeless, Hopeful, Skips, Keeps}
use Rattle.search.specs.Tests.{same_numbers, skipped, taken}
use Rattle.search.proofs.Testing.{same_numbers_decides}

-- one more test to the settled ones
pub or_same : (b : Bool) (ms ns : List ℕ) → ((b || same_numbers ms ns) ≡ true) ↔ ((b ≡ true) ⊎ (ms ≡ ns))
or_same b ms ns = Decides-or b (same_numbers ms ns) (λ h. h, λ h. h) (same_numbers_decides ms ns)

module _ {C : Type 0} (way : Way C) (day : Day) (rules : List Rule) (ns : List ℕ) (s : State) where
  pub skips : (j : ℕ) → j ≤ length ns → Hopeless way day rules s (take j ns) → ((i : ℕ) → i < j → Hopeful way day rules s (take i ns))
      → Skips way day rules ns s (skipped j ns s)
  skips j l h f = record {
    j = j;
    within = l;
    hopeless = h;
    shortest = f;
    settles = λ ms r. or_same (s.settled ms) (take j ms) (take j ns);
    same_plan = refl;
  }

  pub keeps : ((i : ℕ) → i ≤ length ns → Hopeful way day rules s (take i ns)) → Keeps way day rules ns s (taken ns s)
  keeps h = record { hopeful = h; settles = λ ms r. or_same (s.settled ms) ms ns; new_plan = refl }
