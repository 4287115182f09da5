-- Prices along a selection, and hopeless prefixes.
use Rattle.std.proofs.Common.{◌≡◌, ℕ, zero, suc, ◌+◌, ◌<◌, ◌≤◌, true, List, [], ◌∷◌, map, length, get_or, take, fold, Option, sym, ap, ◌∙◌, subst, ap₂, inl, inr, arith}
use Rattle.std.proofs.lemmas.List.{map_push}
use Rattle.std.proofs.lemmas.List.Sums.{fold_push}
use Rattle.std.proofs.lemmas.Bool.{cases_eq}
use Rattle.counting.specs.Ways.{Way}
use Rattle.counting.specs.declared.penalty.Penalty.{Penalty}
use Rattle.problem.specs.Costs.{charge, choice_cost}
use Rattle.problem.specs.Rules.{Rule}
use Rattle.problem.specs.declared.day.Day.{Day}
use Rattle.search.specs.Selections.{no_choice, picked, Feasible, price}
use Rattle.search.specs.Tests.{selects}
use Rattle.planner.specs.Probing.{Beaten, HopelessAt, HopefulAt}
use Rattle.planner.proofs.Choosing.{picked_more}

pub price_none : {C : Type 0} (way : Way C) (rules : List Rule) (c : C) → c ≡ way.zero → c ≡ price way rules []
price_none way [] c e = e
price_none way (r ∷ rules) c e = e

-- one rule more
pub price_more : {C : Type 0} (way : Way C) (rules : List Rule) (ns : List ℕ) (i : ℕ) → selects rules ns ≡ true → i < length ns → (p : Penalty) (c d e : C)
    → c ≡ price way rules (take i ns) → p ≡ charge (get_or (picked rules ns) i no_choice) → d ≡ way.reading p → e ≡ way.join c d → e ≡ price way rules (take (i + 1) ns)
price_more way rules ns i placed l p c d e before penalty reading joins =
    let ch = get_or (picked rules ns) i no_choice in
    joins ∙ ap₂ way.join before (reading ∙ ap way.reading penalty)
    ∙ sym (ap (λ chs. fold way.join way.zero (map (choice_cost way) chs)) (picked_more rules ns i placed l)
    ∙ ap (fold way.join way.zero) (map_push (choice_cost way) (picked rules (take i ns)) ch)
    ∙ fold_push way.join way.zero (map (choice_cost way) (picked rules (take i ns))) (choice_cost way ch))

pub at_most_none : (P : ℕ → Type 0) → P 0 → (k : ℕ) → k ≤ 0 → P k
at_most_none P h zero l = h
at_most_none P h (suc k) l = absurd (omega arith)

pub at_most_more : (P : ℕ → Type 0) (i : ℕ) → ((k : ℕ) → k ≤ i → P k) → P (i + 1) → (k : ℕ) → k ≤ i + 1 → P k
at_most_more P i h e k l = elim (cases_eq k (i + 1)) [ inl q ↦ subst P (sym q) e | inr q ↦ h k (omega arith) ]

module _ {C : Type 0} (way : Way C) (day : Day) (rules : List Rule) (best : Option C) (prefix : List ℕ) (c : C) (same : c ≡ price way rules prefix) where
  pub hopeful : Feasible day rules prefix → (Beaten way best c → ⊥) → HopefulAt way day rules best prefix
  hopeful f n = (f, λ h. n (subst (Beaten way best) (sym same) h))

  pub dear : Beaten way best c → HopelessAt way day rules best prefix
  dear h = inr (subst (Beaten way best) same h)
