-- A search has one course: after as many steps, two searches have settled the same and keep the same.
use Rattle.std.proofs.Common.{◌≡◌, ℕ, zero, suc, ◌<◌, ◌⊎◌, List, [], ◌∷◌, take, sym, refl, ◌∙◌, subst, ap₂, inl, inr}
use mathlib.Core.Path.{subst⁻¹}
use Rattle.std.proofs.lemmas.Bool.{both_ways, cases_order}
use Rattle.std.proofs.lemmas.Bool.Decides.{same_from_decides}
use Rattle.counting.specs.Ways.{Way}
use Rattle.problem.specs.Rules.{Rule}
use Rattle.problem.specs.declared.day.Day.{Day}
use Rattle.search.specs.Selections.{Selection, Before}
use Rattle.search.specs.Searches.{State, Outdone, Hopeless, Hopeful, First, Settles, Skips, Keeps, Step, After}
use Rattle.search.specs.Theorems.{Same}

-- equal, or one before the other
abbrev Compared : List ℕ → List ℕ → Type 0
Compared ms ns = (ms ≡ ns) ⊎ (Before ms ns ⊎ Before ns ms)

compared_cons : (m n : ℕ) (ms ns : List ℕ) → (m ≡ n) ⊎ ((m < n) ⊎ (n < m)) → Compared ms ns → Compared (m ∷ ms) (n ∷ ns)
compared_cons m n ms ns (inl e) (inl f) = inl (ap₂ ◌∷◌ e f)
compared_cons m n ms ns (inl e) (inr (inl l)) = inr (inl (inr (e, l)))
compared_cons m n ms ns (inl e) (inr (inr l)) = inr (inr (inr (sym e, l)))
compared_cons m n ms ns (inr (inl l)) c = inr (inl (inl l))
compared_cons m n ms ns (inr (inr l)) c = inr (inr (inl l))

-- any two selections compare
pub compare : (rules : List Rule) (ms ns : List ℕ) → Selection rules ms → Selection rules ns → Compared ms ns
compare [] [] [] s t = inl refl
compare [] [] (n ∷ ns) s t = absurd t
compare [] (m ∷ ms) ns s t = absurd s
compare (r ∷ rules) [] ns s t = absurd s
compare (r ∷ rules) (m ∷ ms) [] s t = absurd t
compare (r ∷ rules) (m ∷ ms) (n ∷ ns) s t = compared_cons m n ms ns (cases_order m n) (compare rules ms ns s.1 t.1)

module _ {C : Type 0} (way : Way C) (day : Day) (rules : List Rule) where
  one_first : (s t : State) (ms ns : List ℕ) → Same rules s t → First way day rules s ms → First way day rules t ns → ms ≡ ns
  one_first s t ms ns e f g =
      elim (compare rules ms ns f.selection g.selection) [
        | inl p ↦ p
        | inr (inl l) ↦ absurd (both_ways _ f.unsettled (e.settled ms f.selection ∙ g.earlier ms f.selection l))
        | inr (inr l) ↦ absurd (both_ways _ g.unsettled (sym (e.settled ns g.selection) ∙ f.earlier ns g.selection l))
      ]

  -- no prefix is both hopeless and hopeful
  never_both : (s t : State) (prefix : List ℕ) → s.kept ≡ t.kept → Hopeless way day rules s prefix → Hopeful way day rules t prefix → ⊥
  never_both s t prefix e (inl n) h = n h.0
  never_both s t prefix e (inr o) h = h.1 (subst (λ k. Outdone way day rules k prefix) e o)

  -- the same additions to the same settled selections
  settles_same : (P : List ℕ → Type 0) (s t s' t' : State) → Same rules s t → Settles way day rules P s s' → Settles way day rules P t t'
      → (ns : List ℕ) → Selection rules ns → s'.settled ns ≡ t'.settled ns
  settles_same P s t s' t' e f g ns r = same_from_decides _ _ (f ns r) (rw (e.settled ns r) (g ns r))

  one_length : (ns : List ℕ) (s t s' t' : State) → s.kept ≡ t.kept → (f : Skips way day rules ns s s') (g : Skips way day rules ns t t') → f.j ≡ g.j
  one_length ns s t s' t' e f g =
      elim (cases_order f.j g.j) [
        | inl p ↦ p
        | inr (inl l) ↦ absurd (never_both s t (take f.j ns) e f.hopeless (g.shortest f.j l))
        | inr (inr l) ↦ absurd (never_both t s (take g.j ns) (sym e) g.hopeless (f.shortest g.j l))
      ]

  skips_same : (ns : List ℕ) (s t s' t' : State) → Same rules s t → Skips way day rules ns s s' → Skips way day rules ns t t' → Same rules s' t'
  skips_same ns s t s' t' e f g = record {
    settled = settles_same (λ ms. take f.j ms ≡ take f.j ns) s t s' t' e f.settles
        (subst (λ j. Settles way day rules (λ ms. take j ms ≡ take j ns) t t') (sym (one_length ns s t s' t' e.kept f g)) g.settles);
    kept = f.same_plan ∙ e.kept ∙ sym g.same_plan;
  }

  keeps_same : (ns : List ℕ) (s t s' t' : State) → Same rules s t → Keeps way day rules ns s s' → Keeps way day rules ns t t' → Same rules s' t'
  keeps_same ns s t s' t' e f g = record {
    settled = settles_same (λ ms. ms ≡ ns) s t s' t' e f.settles g.settles;
    kept = f.new_plan ∙ sym g.new_plan;
  }

  not_both : (ns : List ℕ) (s t s' t' : State) → s.kept ≡ t.kept → Skips way day rules ns s s' → Keeps way day rules ns t t' → ⊥
  not_both ns s t s' t' e f g = never_both s t (take f.j ns) e f.hopeless (g.hopeful f.j f.within)

  does_same : (ns : List ℕ) (s t s' t' : State) → Same rules s t → Skips way day rules ns s s' ⊎ Keeps way day rules ns s s'
      → Skips way day rules ns t t' ⊎ Keeps way day rules ns t t' → Same rules s' t'
  does_same ns s t s' t' e (inl f) (inl g) = skips_same ns s t s' t' e f g
  does_same ns s t s' t' e (inl f) (inr g) = absurd (not_both ns s t s' t' e.kept f g)
  does_same ns s t s' t' e (inr f) (inl g) = absurd (not_both ns t s t' s' (sym e.kept) g f)
  does_same ns s t s' t' e (inr f) (inr g) = keeps_same ns s t s' t' e f g

  -- from the same state, one step leads to the same state
  pub step_same : (s t s' t' : State) → Same rules s t → Step way day rules s s' → Step way day rules t t' → Same rules s' t'
  step_same s t s' t' e f g =
      does_same f.ns s t s' t' e f.does
      (subst⁻¹ (λ ns. Skips way day rules ns t t' ⊎ Keeps way day rules ns t t') (one_first s t f.ns g.ns e f.first g.first) g.does)

  pub after_same : (k : ℕ) (s t : State) → After way day rules k s → After way day rules k t → Same rules s t
  after_same zero s t a b = record {
    settled = λ ns r. a.unsettled ns r ∙ sym (b.unsettled ns r);
    kept = a.no_plan ∙ sym b.no_plan;
  }
  after_same (suc k) s t a b = step_same a.0 b.0 s t (after_same k a.0 b.0 a.1 b.1) a.2 b.2
