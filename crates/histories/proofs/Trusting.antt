-- A search that calls led to can be trusted.
use Rattle.std.proofs.Common.{◌≡◌, ℕ, ◌⊎◌, ◌↔◌, List, Some, None, Option, sym, refl, ap, ◌∙◌, subst, inl, inr}
use Rattle.counting.specs.Ways.{Way, AtMost, Laws}
use Rattle.problem.specs.Costs.{Costs}
use Rattle.problem.specs.Rules.{Rule}
use Rattle.problem.specs.declared.day.Day.{Day}
use Rattle.search.specs.Outcomes.{Plan, TellsWord, Tells, kept_price, Smallest}
use Rattle.search.specs.Searches.{State, Running, Ended, After}
use Rattle.search.specs.Selections.{Fit, price}
use Rattle.search.specs.Theorems.{AllSmallest, Optimal, Agree}
use Rattle.search.specs.declared.word.Word.{Word}
use Rattle.search.specs.declared.word.Word.TheVariants as word
use Rattle.search.proofs.Optimal.{verdict}
use Rattle.search.proofs.Ranks.{ranked}
use Rattle.search.proofs.Reordered.{agree}
use Rattle.search.proofs.Sound.{no_cheaper}
use Rattle.histories.specs.Histories.{View, drafting, searching}
use Rattle.histories.specs.Promises.{ReadAll, Best, Promise, Trusted, SameVerdict, Agreeing}
use Rattle.histories.proofs.Keeping.{Kept}

module _ (rules : List Rule) (s : State) (ended : Ended rules s) where
  not_running : Running rules s → ⊥
  not_running r = let e = ended r.0 r.1 in cc

  -- an ended search tells NONE without a plan, and PROVED with one
  told : (w : Word) → TellsWord rules s w → ((w ≡ word.None) × (s.kept ≡ None)) ⊎ ((w ≡ word.Proved) × Plan s)
  told word.Open h = absurd (not_running h.0)
  told word.Short h = absurd (not_running h.0)
  told word.None h = inl (refl, h.1)
  told word.Proved h = inr (refl, h.1)

  none_told : (w : Word) → TellsWord rules s w → (w ≡ word.None) ↔ (s.kept ≡ None)
  none_told w h = elim (told w h) [ inl (e, n) ↦ (λ _. n, λ _. e) | inr (e, p) ↦ (λ f. cc, λ n. cc) ]

  plan_told : (w : Word) → TellsWord rules s w → w ≡ word.Proved → Plan s
  plan_told w h e = elim (told w h) [ inl (f, n) ↦ cc | inr (f, p) ↦ p ]

  proved_told : (w : Word) → TellsWord rules s w → (plan : List ℕ) → s.kept ≡ Some plan → w ≡ word.Proved
  proved_told w h plan e = elim (told w h) [ inl (f, n) ↦ cc | inr (f, p) ↦ f ]

module _ {C : Type 0} (way : Way C) (laws : Laws way) (day : Day) (rules : List Rule) (fit : Fit day rules) (s : State) (k : ℕ) (after : After way day rules k s) where
  -- minutes that are read are the smallest under the plan
  read_smallest : (plan : List ℕ) → s.kept ≡ Some plan → (S : ℕ → ℕ) → ReadAll way day rules s S → AllSmallest day rules plan S
  read_smallest plan e S r i l =
      let t = r i l in
      subst (λ p. Smallest day rules p i (S i)) (cc) t.2

  best : (plan : List ℕ) → s.kept ≡ Some plan → (cost : C) → cost ≡ price way rules plan → Optimal way day rules plan → Best way day rules s cost
  best plan e cost c o = record {
    minutes = (o.minutes.0, λ i l. (plan, e, o.minutes.1 i l));
    timetable = λ S r. o.timetable S (read_smallest plan e S r);
    allowed = λ S r. o.allowed S (read_smallest plan e S r);
    costs = λ S r. subst (Costs way S rules) (sym c) (o.costs S (read_smallest plan e S r));
    lowest = λ T d h i. subst (λ x. AtMost way x d) (sym c) (o.lowest T d h i);
  }

  pub promise : Promise way day rules s
  promise = record {
    no_cheaper = no_cheaper way (ranked way laws) day rules k s after;
    ended_word = λ ended w cost given t. elim (told rules s ended w t.word_is) [ inl h ↦ inl h.0 | inr h ↦ inr h.0 ];
    none = λ ended w cost given t.
        let v = verdict way laws day rules fit k s after ended in
        let n = none_told rules s ended w t.word_is in
        (λ e. v.no_plan.0 (n.0 e), λ h. n.1 (v.no_plan.1 h));
    proved = λ ended w cost given t e.
        let v = verdict way laws day rules fit k s after ended in
        let p = plan_told rules s ended w t.word_is e in
        best p.0 p.1 cost (t.cost_is ∙ ap (kept_price way rules) p.1) (v.optimal p.0 p.1);
  }

module _ {C : Type 0} (way : Way C) (laws : Laws way) where
  pub trusted : (v : View) → Kept way v → Trusted way v
  trusted (drafting day rules) k = tt
  trusted (searching day rules s) k = promise way laws day rules k.0 s k.1.0 k.1.1

  -- plans of one price, told
  same_verdict : (rules rules' : List Rule) (s s' : State) (o o' : Option (List ℕ)) → s.kept ≡ o → s'.kept ≡ o' → Ended rules s → Ended rules' s' → Agree way rules rules' o o'
      → (w w' : Word) (c c' : C) (given given' : ℕ) → Tells way rules s w c given → Tells way rules' s' w' c' given' → SameVerdict way w c w' c'
  same_verdict rules rules' s s' None None e e' ended ended' a w w' c c' x x' t t' =
      inl ((none_told rules s ended w t.word_is).1 e, (none_told rules' s' ended' w' t'.word_is).1 e')
  same_verdict rules rules' s s' None (Some p') e e' ended ended' a w w' c c' x x' t t' = absurd a
  same_verdict rules rules' s s' (Some p) None e e' ended ended' a w w' c c' x x' t t' = absurd a
  same_verdict rules rules' s s' (Some p) (Some p') e e' ended ended' a w w' c c' x x' t t' =
      inr (proved_told rules s ended w t.word_is p e, proved_told rules' s' ended' w' t'.word_is p' e', t.cost_is ∙ ap (kept_price way rules) e ∙ a ∙ sym (t'.cost_is ∙ ap (kept_price way rules') e'))

  pub agreeing : (v v' : View) → Kept way v → Kept way v' → Agreeing way v v'
  agreeing (drafting day rules) v k k' = tt
  agreeing (searching day rules s) (drafting day' rules') k k' = tt
  agreeing (searching day rules s) (searching day' rules' s') k k' = λ same shuffled ended ended'.
      same_verdict rules rules' s s' s.kept s'.kept refl refl ended ended'
      (agree way laws day rules rules' shuffled k.1.0 k'.1.0 s s' k.1.1 ended (subst (λ d. After way d rules' k'.1.0 s') (sym same) k'.1.1) ended')
