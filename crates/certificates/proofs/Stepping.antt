-- Checked certificates are steps.
use Rattle.std.proofs.Common.{◌≡◌, ℕ, suc, ◌-◌, ◌<◌, true, false, not, ◌||◌, leb, List, [], ◌∷◌, length, take, Some, None, Option, refl, subst, inl, inr, arith}
use Rattle.std.proofs.lemmas.List.{take-take}
use Rattle.std.proofs.lemmas.Bool.{and_parts, both_ways, leb-true, not-true}
use Rattle.counting.specs.Ways.{Way}
use Rattle.problem.specs.Rules.{Rule}
use Rattle.problem.specs.Timetables.{minute}
use Rattle.problem.specs.declared.day.Day.{Day}
use Rattle.search.specs.Limiting.{prefix_limits}
use Rattle.search.specs.Selections.{Feasible}
use Rattle.search.specs.Searches.{State, Outdone, Hopeful, First, Step, After}
use Rattle.search.specs.Tests.{selects, before}
use Rattle.search.proofs.Choosing.{feasible_take}
use Rattle.search.proofs.Limiting.{met_solves}
use Rattle.search.proofs.Moves.{skips, keeps}
use Rattle.search.proofs.Testing.{selects_selection, before_true}
use Rattle.certificates.specs.Certificates.{Certificate, met, outdone, is_first, hopeful_below, valid, moved, reached, checked, fresh, counted}
use Rattle.certificates.specs.Theorems.{EnumerationEnds}
use Rattle.certificates.proofs.Rings.{ring_clashes}
use Rattle.certificates.proofs.Testing.{every_selection, below_each, met_true, ringed_true}

module _ {C : Type 0} (way : Way C) (day : Day) (rules : List Rule) where
  outdone_true : (o : Option (List ℕ)) (prefix : List ℕ) → outdone way day rules o prefix ≡ true → Outdone way day rules o prefix
  outdone_true None prefix h = absurd (both_ways false refl h)
  outdone_true (Some plan) prefix h = h

  outdone_false : (o : Option (List ℕ)) (prefix : List ℕ) → outdone way day rules o prefix ≡ false → Outdone way day rules o prefix → ⊥
  outdone_false None prefix h k = k
  outdone_false (Some plan) prefix h k = both_ways _ h k

  module _ (s : State) (ns : List ℕ) where
    pub first_true : is_first way day rules s ns ≡ true → First way day rules s ns
    first_true h =
        let p = and_parts (selects rules ns) _ h in
        let q = and_parts (not (s.settled ns)) _ p.1 in
        record {
          selection = selects_selection rules ns p.0;
          unsettled = not-true _ q.0;
          earlier = λ ms r b.
              let passed = every_selection rules (λ ks. not (before ks ns) || s.settled ks) q.1 ms r in
              let earlier : before ms ns ≡ true = before_true ms ns b in
              cc;
        }

    hopeful_true : (minutes : List ℕ) (k : ℕ) → hopeful_below way day rules s ns minutes k ≡ true → (i : ℕ) → i < k → Hopeful way day rules s (take i ns)
    hopeful_true minutes k h i l =
        let q = and_parts (met day rules minutes (take (k - 1) ns)) _ h in
        let longer : Feasible day rules (take (k - 1) ns) = (minute minutes, met_true day rules minutes (take (k - 1) ns) q.0) in
        let feasible : Feasible day rules (take i ns) = subst (Feasible day rules) (take-take i (k - 1) ns (omega arith)) (feasible_take day rules (take (k - 1) ns) i longer) in
        (feasible, outdone_false s.kept (take i ns) (not-true _ (below_each k (λ j. not (outdone way day rules s.kept (take j ns))) q.1 i l)))

  step_true : (s : State) (c : Certificate) → valid way day rules s c ≡ true → Step way day rules s (moved way day rules s c)
  step_true s (Certificate.clash ns j minutes a ring) h =
      let p = and_parts (is_first way day rules s ns) _ h in
      let q = and_parts (leb j (length ns)) _ p.1 in
      let r = and_parts (hopeful_below way day rules s ns minutes j) _ q.1 in
      let none : Feasible day rules (take j ns) → ⊥ =
      λ f. ring_clashes day (prefix_limits rules (take j ns)) ring a (ringed_true day (prefix_limits rules (take j ns)) ring a r.1) f.0 (met_solves day rules f.0 (take j ns) f.1) in
      record { ns = ns; first = first_true s ns p.0; does = inl (skips way day rules ns s j (leb-true _ _ q.0) (inl none) (hopeful_true s ns minutes j r.0)) }
  step_true s (Certificate.dear ns j minutes) h =
      let p = and_parts (is_first way day rules s ns) _ h in
      let q = and_parts (leb j (length ns)) _ p.1 in
      let r = and_parts (hopeful_below way day rules s ns minutes j) _ q.1 in
      record { ns = ns; first = first_true s ns p.0; does = inl (skips way day rules ns s j (leb-true _ _ q.0) (inr (outdone_true s.kept (take j ns) r.1)) (hopeful_true s ns minutes j r.0)) }
  step_true s (Certificate.keep ns minutes) h =
      let p = and_parts (is_first way day rules s ns) _ h in
      record { ns = ns; first = first_true s ns p.0; does = inr (keeps way day rules ns s (λ i l. hopeful_true s ns minutes (suc (length ns)) p.1 i (omega arith))) }

  steps_true : (cs : List Certificate) (k : ℕ) (s : State) → After way day rules k s → checked way day rules s cs ≡ true
      → After way day rules (counted k cs) (reached way day rules s cs)
  steps_true [] k s a h = a
  steps_true (c ∷ cs) k s a h =
      let p = and_parts (valid way day rules s c) _ h in
      steps_true cs (suc k) (moved way day rules s c) (s, a, step_true s c p.0) p.1

  pub certified : (cs : List Certificate) → checked way day rules fresh cs ≡ true → After way day rules (counted 0 cs) (reached way day rules fresh cs)
  certified cs h = steps_true cs 0 fresh (record { unsettled = λ ns r. refl; no_plan = refl }) h

pub enumeration_ends : EnumerationEnds
enumeration_ends rules s h = every_selection rules s.settled h
