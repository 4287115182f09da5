-- What every step keeps true, and what it says at the end.
use Rattle.std.proofs.Common.{◌≡◌, ℕ, zero, suc, List, length, take, Some, None, Option, subst, inl, inr, le_refl}
use mathlib.Core.Path.{subst⁻¹}
use Rattle.std.proofs.lemmas.List.{take_all}
use Rattle.std.proofs.lemmas.Bool.{both_ways}
use Rattle.counting.specs.Ways.{Way, AtMost, Laws}
use Rattle.problem.specs.Costs.{Costs}
use Rattle.problem.specs.Rules.{Rule}
use Rattle.problem.specs.Timetables.{OfDay}
use Rattle.problem.specs.declared.day.Day.{Day}
use Rattle.search.specs.Selections.{Selection, Met, Feasible, price}
use Rattle.search.specs.Searches.{State, Settled, Outdone, Hopeless, Hopeful, Skips, Keeps, Step, After, Ended}
use Rattle.search.specs.Theorems.{NoCheaper, NoneAllowed}
use Rattle.search.proofs.Ranks.{Alike, Ranked, ranked, self}
use Rattle.search.proofs.Choosing.{feasible_take, price_take, allowed_selects, selected_allowed, costs_selects, costs_lowest, allowed_costs}

module _ {C : Type 0} (way : Way C) (laws : Ranked way) (day : Day) (rules : List Rule) where
  -- the plan outdoes each settled selection that is feasible
  abbrev pub SoFar : State → Type 0
  SoFar s = (ns : List ℕ) → Selection rules ns → Settled s ns → Feasible day rules ns → Outdone way day rules s.kept ns

  -- a plan that is kept is a feasible selection
  abbrev pub Sure : Option (List ℕ) → Type 0
  Sure None = Unit {0}
  Sure (Some plan) = Selection rules plan × Feasible day rules plan

  -- a prefix costs at most what the whole costs, so what outdoes the one outdoes the other
  outdone_take : (o : Option (List ℕ)) (ns : List ℕ) (j : ℕ) → Outdone way day rules o (take j ns) → Outdone way day rules o ns
  outdone_take None ns j h = h
  outdone_take (Some plan) ns j h = laws.trans _ _ _ h (price_take way laws rules ns j)

  -- a plan that the old one does not outdo outdoes what the old one did
  outdone_better : (o : Option (List ℕ)) (plan ns : List ℕ) → (Outdone way day rules o plan → ⊥) → Outdone way day rules o ns → Outdone way day rules (Some plan) ns
  outdone_better None plan ns n h = absurd h
  outdone_better (Some old) plan ns n h =
      elim (laws.total (price way rules old) (price way rules plan)) [ inl p ↦ absurd (n p) | inr p ↦ laws.trans _ _ _ p h ]

  hopeless_take : (s : State) (ns ms : List ℕ) (j : ℕ) → Hopeless way day rules s (take j ns) → take j ms ≡ take j ns → Feasible day rules ms
      → Outdone way day rules s.kept ms
  hopeless_take s ns ms j (inl n) e f = absurd (n (subst (Feasible day rules) e (feasible_take day rules ms j f)))
  hopeless_take s ns ms j (inr o) e f = outdone_take s.kept ms j (subst⁻¹ (Outdone way day rules s.kept) e o)

  skips_so_far : (ns : List ℕ) (s t : State) → Skips way day rules ns s t → SoFar s → SoFar t
  skips_so_far ns s t k h ms r d f =
      subst⁻¹ (λ o. Outdone way day rules o ms) k.same_plan
      (elim ((k.settles ms r).0 d) [ inl e ↦ h ms r e f | inr e ↦ hopeless_take s ns ms k.j k.hopeless e f ])

  -- a kept selection is hopeful as a whole
  hopeful_whole : (ns : List ℕ) (s t : State) → Keeps way day rules ns s t → Hopeful way day rules s ns
  hopeful_whole ns s t k =
      subst (Hopeful way day rules s) (take_all (length ns) ns (le_refl (length ns))) (k.hopeful (length ns) (le_refl (length ns)))

  keeps_so_far : (ns : List ℕ) (s t : State) → Keeps way day rules ns s t → SoFar s → SoFar t
  keeps_so_far ns s t k h ms r d f =
      subst⁻¹ (λ o. Outdone way day rules o ms) k.new_plan
      (elim ((k.settles ms r).0 d) [
        | inl e ↦ outdone_better s.kept ns ms (hopeful_whole ns s t k).1 (h ms r e f)
        | inr e ↦ subst⁻¹ (Outdone way day rules (Some ns)) e (self way laws (price way rules ns))
      ])

  step_so_far : (s t : State) → Step way day rules s t → SoFar s → SoFar t
  step_so_far s t p h = elim p.does [ inl k ↦ skips_so_far p.ns s t k h | inr k ↦ keeps_so_far p.ns s t k h ]

  step_sure : (s t : State) → Step way day rules s t → Sure s.kept → Sure t.kept
  step_sure s t p h =
      elim p.does [
        | inl k ↦ subst⁻¹ Sure k.same_plan h
        | inr k ↦ subst⁻¹ Sure k.new_plan (p.first.selection, (hopeful_whole p.ns s t k).0)
      ]

  pub after_so_far : (k : ℕ) (s : State) → After way day rules k s → SoFar s
  after_so_far zero s a = λ ns r d f. absurd (both_ways _ (a.unsettled ns r) d)
  after_so_far (suc k) t a = step_so_far a.0 t a.2 (after_so_far k a.0 a.1)

  pub after_sure : (k : ℕ) (s : State) → After way day rules k s → Sure s.kept
  after_sure zero s a = subst⁻¹ Sure a.no_plan tt
  after_sure (suc k) t a = step_sure a.0 t a.2 (after_sure k a.0 a.1)

  pub no_cheaper : (k : ℕ) (s : State) → After way day rules k s → NoCheaper way day rules s
  no_cheaper k s a = record {
    no_plan = λ n ns r d f. subst (λ o. Outdone way day rules o ns) n (after_so_far k s a ns r d f);
    plan = λ plan e ns r d f. subst (λ o. Outdone way day rules o ns) e (after_so_far k s a ns r d f);
  }

  -- the plan is a feasible selection
  pub plan_sure : (k : ℕ) (s : State) → After way day rules k s → (plan : List ℕ) → s.kept ≡ Some plan → Selection rules plan × Feasible day rules plan
  plan_sure k s a plan e = subst Sure e (after_sure k s a)

  -- at the end, without a plan, nothing is allowed
  pub none_allowed : (k : ℕ) (s : State) → After way day rules k s → Ended rules s → s.kept ≡ None → NoneAllowed day rules
  none_allowed k s a e n T d h =
      let t = allowed_selects T rules h in
      (no_cheaper k s a).no_plan n t.0 t.1 (e t.0 t.1) (T, (d, t.2))

  -- at the end the plan's price is at most what any timetable costs
  pub lowest : (k : ℕ) (s : State) → After way day rules k s → Ended rules s → (plan : List ℕ) → s.kept ≡ Some plan
      → (T : ℕ → ℕ) (c : C) → OfDay day T → Costs way T rules c → AtMost way (price way rules plan) c
  lowest k s a e plan n T c d h =
      let t = costs_selects way T rules c h in
      subst (AtMost way (price way rules plan)) t.3 ((no_cheaper k s a).plan plan n t.0 t.1 (e t.0 t.1) (T, (d, t.2)))

module _ {C : Type 0} (way : Way C) (laws : Laws way) (day : Day) (rules : List Rule) where
  -- at the end each timetable that meets the plan costs the plan's price, by rank
  pub exact_by_rank : (k : ℕ) (s : State) → After way day rules k s → Ended rules s → (plan : List ℕ) → s.kept ≡ Some plan
      → (T : ℕ → ℕ) → Met day rules T plan → (c : C) × Costs way T rules c × Alike way c (price way rules plan)
  exact_by_rank k s a e plan n T m =
      let sure = plan_sure way (ranked way laws) day rules k s a plan n in
      let x = allowed_costs way laws T rules (selected_allowed T rules plan sure.0 m.1) in
      let high = costs_lowest way T (ranked way laws) rules x.0 plan x.1 sure.0 m.1 in
      let low = lowest way (ranked way laws) day rules k s a e plan n T x.0 m.0 x.1 in
      (x.0, x.1, (high, low))

  -- and where costs of one rank are equal, just that
  pub exact : (k : ℕ) (s : State) → After way day rules k s → Ended rules s → (plan : List ℕ) → s.kept ≡ Some plan
      → (T : ℕ → ℕ) → Met day rules T plan → Costs way T rules (price way rules plan)
  exact k s a e plan n T m =
      let x = exact_by_rank k s a e plan n T m in
      subst (Costs way T rules) (laws.antisym _ _ x.2.0 x.2.1) x.1
