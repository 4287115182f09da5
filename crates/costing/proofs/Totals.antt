-- What rules cost together, one rule after another, and that it is one cost.
use Rattle.std.proofs.Common.{◌≡◌, ℕ, ◌+◌, ◌<◌, List, [], ◌∷◌, ◌++◌, map, length, get_or, take, fold, sym, refl, ap, ◌∙◌, subst, arith}
use Rattle.std.specs.List.{HoldsAt, AllByRecursion}
use Rattle.std.proofs.ByRecursion.{All-get_or}
use Rattle.std.proofs.lemmas.List.{length-map, get_or-map, map_more, take-map}
use Rattle.std.proofs.lemmas.List.Sums.{fold_push}
use Rattle.counting.specs.Ways.{Way, AtMost, Laws}
use Rattle.problem.specs.Costs.{choice_cost, Least, RuleCost, Costs, Pairwise}
use Rattle.problem.specs.Timetables.{Choice, option, giving_up, choices, Meets, Chosen, Satisfies, Allowed}
use Rattle.problem.specs.Rules.{Rule, rule_of}
use Rattle.problem.specs.declared.constraint.Constraint.{Constraint}
use Rattle.problem.specs.declared.constraint.Disjunct.{Disjunct}
use Rattle.problem.specs.declared.constraint.Kind.{Kind}
use Rattle.problem.specs.declared.constraint.Kind.TheVariants.{Firm, Wish}
use Rattle.costing.specs.Answers.{Broken}
use Rattle.costing.specs.Cheapest.{Unmet}
use Rattle.costing.proofs.Cheaper.{some_of_all, some_const}

module _ {X Y : Type 0} (R : X → Y → Type 0) where
  pairwise_push : (xs : List X) (ys : List Y) (x : X) (y : Y) → Pairwise R xs ys → R x y → Pairwise R (xs ++ x ∷ []) (ys ++ y ∷ [])
  pairwise_push [] [] x y h k = (k, tt)
  pairwise_push [] (z ∷ ys) x y h k = absurd h
  pairwise_push (z ∷ xs) [] x y h k = absurd h
  pairwise_push (z ∷ xs) (w ∷ ys) x y h k = (h.0, pairwise_push xs ys x y h.1 k)

  pairwise_all : {P : X → Type 0} → ((x : X) (y : Y) → R x y → P x) → (xs : List X) (ys : List Y) → Pairwise R xs ys → AllByRecursion P xs
  pairwise_all f [] ys h = tt
  pairwise_all f (x ∷ xs) [] h = absurd h
  pairwise_all f (x ∷ xs) (y ∷ ys) h = (f x y h.0, pairwise_all f xs ys h.1)

  pairwise_same : ((x : X) (y z : Y) → R x y → R x z → y ≡ z) → (xs : List X) (ys zs : List Y) → Pairwise R xs ys → Pairwise R xs zs → ys ≡ zs
  pairwise_same f [] [] [] h k = refl
  pairwise_same f [] [] (z ∷ zs) h k = absurd k
  pairwise_same f [] (y ∷ ys) zs h k = absurd h
  pairwise_same f (x ∷ xs) [] zs h k = absurd h
  pairwise_same f (x ∷ xs) (y ∷ ys) [] h k = absurd k
  pairwise_same f (x ∷ xs) (y ∷ ys) (z ∷ zs) h k = ap (λ w. w ∷ ys) (f x y z h.0 k.0) ∙ ap (λ ws. z ∷ ws) (pairwise_same f xs ys zs h.1 k.1)

module _ {C : Type 0} (way : Way C) (T : ℕ → ℕ) where
  -- one rule more
  pub costs_more : (cs : List Constraint) (i : ℕ) (r : Constraint) (c x s : C) → i < length cs → r ≡ get_or cs i r → Costs way T (map rule_of (take i cs)) c
      → Least way T (choices (rule_of r)) x → s ≡ way.join c x → Costs way T (map rule_of (take (i + 1) cs)) s
  costs_more cs i r c x s l e h k j =
      let more : map rule_of (take (i + 1) cs) ≡ map rule_of (take i cs) ++ rule_of r ∷ [] = map_more rule_of cs i r l ∙ ap (λ y. map rule_of (take i cs) ++ rule_of y ∷ []) (sym e) in
      record {
        each = h.each ++ x ∷ [];
        priced = subst (λ rs. Pairwise (RuleCost way T) rs (h.each ++ x ∷ [])) (sym more) (pairwise_push (RuleCost way T) (map rule_of (take i cs)) h.each (rule_of r) x h.priced k);
        joined = fold_push way.join way.zero h.each x ∙ ap (λ a. way.join a x) h.joined ∙ sym j;
      }

  -- what costs something is allowed
  least_satisfies : (r : Rule) (c : C) → RuleCost way T r c → Satisfies T r
  least_satisfies r c l = some_of_all (λ ch. Chosen T ch × (choice_cost way ch ≡ c)) (λ ch h k. h.0) (choices r) l.reached l.lowest

  pub costs_allowed : (rules : List Rule) (c : C) → Costs way T rules c → Allowed T rules
  costs_allowed rules c h = pairwise_all (RuleCost way T) least_satisfies rules h.each h.priced

module _ {C : Type 0} (way : Way C) (laws : Laws way) (T : ℕ → ℕ) where
  -- of two least prices, each is at most the other
  least_at_most : (chs : List Choice) (c d : C) → Least way T chs c → Least way T chs d → AtMost way c d
  least_at_most chs c d l m =
      some_const (AtMost way c d) chs
      (some_of_all (λ ch. Chosen T ch × (choice_cost way ch ≡ d)) (λ ch h k. subst (AtMost way c) h.1 (k h.0)) chs m.reached l.lowest)

  rule_cost_same : (r : Rule) (c d : C) → RuleCost way T r c → RuleCost way T r d → c ≡ d
  rule_cost_same r c d l m = laws.antisym c d (least_at_most (choices r) c d l m) (least_at_most (choices r) d c m l)

  pub costs_same : (rules : List Rule) (c d : C) → Costs way T rules c → Costs way T rules d → d ≡ c
  costs_same rules c d h k =
      sym k.joined
      ∙ ap (fold way.join way.zero) (pairwise_same (RuleCost way T) rule_cost_same rules k.each h.each k.priced h.priced)
      ∙ h.joined

module _ (T : ℕ → ℕ) where
  unmet_firm : (ds : List Disjunct) (k : Kind) → Unmet T (map option ds ++ giving_up k) → (k ≡ Firm) × AllByRecursion (λ d. Meets T d → ⊥) ds
  unmet_firm [] Firm h = (refl, tt)
  unmet_firm [] (Wish p) h = absurd (h.0 tt)
  unmet_firm (d ∷ ds) k h = let t = unmet_firm ds k h.1 in (t.0, (h.0, t.1))

  -- a rule of which no choice is met is firm, and none of its options is met
  pub unmet_broken : (r : Rule) → Unmet T (choices r) → Broken T r
  unmet_broken r h = unmet_firm r.options r.kind h

  unmet_unsatisfied : (r : Rule) → Unmet T (choices r) → Satisfies T r → ⊥
  unmet_unsatisfied r u s = some_const ⊥ (choices r) (some_of_all (Chosen T) (λ ch h k. k h) (choices r) s u)

  -- with such a rule, no timetable is allowed
  pub unmet_not_allowed : (rules : List Rule) (k : ℕ) → k < length rules → HoldsAt (λ r. Unmet T (choices r)) rules k → Allowed T rules → ⊥
  unmet_not_allowed [] k l u a = absurd (omega arith)
  unmet_not_allowed (r ∷ rs) k l u a = unmet_unsatisfied (get_or (r ∷ rs) k r) (u r) (All-get_or (Satisfies T) (r ∷ rs) k r l a)

module _ {C : Type 0} (way : Way C) (T : ℕ → ℕ) where
  -- the rules before cost something, and this one is not met
  pub first_unmet : (cs : List Constraint) (i : ℕ) (r : Constraint) (c : C) → i < length cs → r ≡ get_or cs i r → Costs way T (map rule_of (take i cs)) c
      → Unmet T (choices (rule_of r)) → (i < length (map rule_of cs)) × AllByRecursion (Satisfies T) (take i (map rule_of cs)) × HoldsAt (λ x. Unmet T (choices x)) (map rule_of cs) i
  first_unmet cs i r c l e h u =
      let same : (d : Rule) → get_or (map rule_of cs) i d ≡ rule_of r = λ d. get_or-map rule_of cs i r d l ∙ ap rule_of (sym e) in (
        simp length-map l,
        subst (AllByRecursion (Satisfies T)) (sym (take-map rule_of i cs)) (costs_allowed way T (map rule_of (take i cs)) c h),
        λ d. subst (λ x. Unmet T (choices x)) (sym (same d)) u,
      )
