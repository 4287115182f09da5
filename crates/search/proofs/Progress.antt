-- A search that runs has a next step, so it comes to its end.
use Rattle.std.proofs.Common.{◌≡◌, ℕ, zero, suc, ◌+◌, ◌<◌, ◌≤◌, Bool, true, false, ◌⊎◌, List, [], ◌∷◌, length, take, Some, None, Option, refl, inl, inr, suc-le-suc, le_of_suc-le-suc, arith}
use mathlib.Core.Path.{subst⁻¹}
use Rattle.std.proofs.lemmas.Bool.{both_ways, cases_Bool}
use Rattle.counting.specs.Ways.{Way}
use Rattle.problem.specs.Rules.{Rule}
use Rattle.problem.specs.Timetables.{choices}
use Rattle.problem.specs.declared.day.Day.{Day}
use Rattle.search.specs.Selections.{Selection, selections, Before, Fit, price}
use Rattle.search.specs.Searches.{State, Outdone, Hopeless, Hopeful, First, Step, After, Running, Ended}
use Rattle.search.proofs.Count.{bound}
use Rattle.search.specs.Tests.{skipped, taken}
use Rattle.search.proofs.Moves.{skips, keeps}
use Rattle.search.proofs.Smallest.{feasible_or_not}
use Rattle.search.proofs.Timetables.{Decided, least_number}

-- every selection passes the test
abbrev Passed : List Rule → (List ℕ → Bool) → Type 0
Passed rules p = (ns : List ℕ) → Selection rules ns → p ns ≡ true

-- ns is the first selection that fails the test
abbrev Fails : List Rule → (List ℕ → Bool) → List ℕ → Type 0
Fails rules p ns = Selection rules ns × (p ns ≡ false) × ((ms : List ℕ) → Selection rules ms → Before ms ns → p ms ≡ true)

passed_none : (p : List ℕ → Bool) → p [] ≡ true → Passed [] p
passed_none p h [] s = h
passed_none p h (n ∷ ns) s = absurd s

passed_cons : (r : Rule) (rules : List Rule) (p : List ℕ → Bool) → ((n : ℕ) → n < length (choices r) → Passed rules (λ ns. p (n ∷ ns))) → Passed (r ∷ rules) p
passed_cons r rules p h [] s = absurd s
passed_cons r rules p h (n ∷ ns) s = h n s.0 ns s.1

before_cons : (r : Rule) (rules : List Rule) (p : List ℕ → Bool) (m : ℕ) (ns : List ℕ)
    → ((n : ℕ) → n < m → Passed rules (λ ks. p (n ∷ ks))) → Fails rules (λ ks. p (m ∷ ks)) ns
    → (ms : List ℕ) → Selection (r ∷ rules) ms → Before ms (m ∷ ns) → p ms ≡ true
before_cons r rules p m ns h f [] s b = absurd s
before_cons r rules p m ns h f (n ∷ ms) s (inl l) = h n l ms s.1
before_cons r rules p m ns h f (n ∷ ms) s (inr (e, b)) = subst⁻¹ (λ k. p (k ∷ ms) ≡ true) e (f.2 ms s.1 b)

none_before : (p : List ℕ → Bool) (ms : List ℕ) → Before ms [] → p ms ≡ true
none_before p [] b = absurd b
none_before p (m ∷ ms) b = absurd b

-- the first selection that fails a test, or all pass it
pub first_failure : (rules : List Rule) (p : List ℕ → Bool) → Passed rules p ⊎ ((ns : List ℕ) × Fails rules p ns)
first_failure [] p = elim (cases_Bool (p [])) [ inl h ↦ inl (passed_none p h) | inr n ↦ inr ([], (tt, n, λ ms s b. none_before p ms b)) ]
first_failure (r ∷ rules) p =
    elim (least_number (λ n. Passed rules (λ ns. p (n ∷ ns))) (λ n. (ns : List ℕ) × Fails rules (λ ks. p (n ∷ ks)) ns) (λ n. first_failure rules (λ ns. p (n ∷ ns))) (length (choices r))) [
      | inl h ↦ inl (passed_cons r rules p h)
      | inr f ↦ inr (f.0 ∷ f.2.0, ((f.1, f.2.1.0), f.2.1.1, before_cons r rules p f.0 f.2.0 f.3 f.2.1))
    ]

module _ {C : Type 0} (way : Way C) (day : Day) (rules : List Rule) (fit : Fit day rules) where
  outdone_or_not : (o : Option (List ℕ)) (prefix : List ℕ) → Decided (Outdone way day rules o prefix)
  outdone_or_not None prefix = inr (λ h. h)
  outdone_or_not (Some plan) prefix =
      elim (cases_Bool (way.atmost (price way rules plan) (price way rules prefix))) [ inl h ↦ inl h | inr n ↦ inr (both_ways _ n) ]

  hopeful_or_not : (s : State) (prefix : List ℕ) → Hopeful way day rules s prefix ⊎ Hopeless way day rules s prefix
  hopeful_or_not s prefix =
      elim (feasible_or_not day rules fit prefix) [
        | inl f ↦ elim (outdone_or_not s.kept prefix) [ inl o ↦ inr (inr o) | inr n ↦ inl (f, n) ]
        | inr n ↦ inr (inl n)
      ]

  next_at : (s : State) (ns : List ℕ) → First way day rules s ns → (t : State) × Step way day rules s t
  next_at s ns f =
      elim (least_number (λ i. Hopeful way day rules s (take i ns)) (λ i. Hopeless way day rules s (take i ns)) (λ i. hopeful_or_not s (take i ns)) (suc (length ns))) [
        | inl h ↦ (taken ns s, record { ns = ns; first = f; does = inr (keeps way day rules ns s (λ i l. h i (suc-le-suc l))) })
        | inr j ↦ (skipped j.0 ns s, record { ns = ns; first = f; does = inl (skips way day rules ns s j.0 (le_of_suc-le-suc j.1) j.2 j.3) })
      ]

  -- every selection is settled, or there is a next step
  ended_or_next : (s : State) → Ended rules s ⊎ ((t : State) × Step way day rules s t)
  ended_or_next s =
      elim (first_failure rules s.settled) [
        | inl h ↦ inl h
        | inr f ↦ inr (next_at s f.0 (record { selection = f.1.0; unsettled = f.1.1; earlier = f.1.2 }))
      ]

  pub next : (s : State) → Running rules s → (t : State) × Step way day rules s t
  next s (ns, r, u) = elim (ended_or_next s) [ inl e ↦ absurd (both_ways _ u (e ns r)) | inr t ↦ t ]

  -- with d more steps than the bound allows, the search has ended before
  go : (d k : ℕ) (s : State) → After way day rules k s → selections rules < k + d → (k : ℕ) × (s : State) × After way day rules k s × Ended rules s
  go zero k s a l = let b : k ≤ selections rules = bound way day rules k s a in absurd (omega arith)
  go (suc d) k s a l =
      elim (ended_or_next s) [
        | inl e ↦ (k, s, a, e)
        | inr t ↦ go d (suc k) t.0 (s, a, t.1) (omega arith)
      ]

  pub ends : (k : ℕ) × (s : State) × After way day rules k s × Ended rules s
  ends =
      go (suc (selections rules)) 0 (record { settled = λ ns. false; kept = None }) (record { unsettled = λ ns r. refl; no_plan = refl }) (omega arith)
