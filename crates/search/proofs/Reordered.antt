-- Rules in another order: what a timetable costs, and the ends of two searches.
use Rattle.std.proofs.Common.{◌≡◌, ℕ, zero, suc, ◌<◌, List, [], ◌∷◌, length, get_or, set, Some, None, fold, Option, refl, subst, le_of_suc-le-suc, arith}
use Rattle.std.specs.List.Sorted.{IsPermutation}
use Rattle.std.specs.List.{swap as exchanged}
use Rattle.std.proofs.lemmas.List.Sorted.{IsPermutation-keeps, IsPermutation-sym}
use Rattle.std.proofs.ByRecursion.{all_shuffled}
use Rattle.counting.specs.Ways.{Way, AtMost, Laws}
use Rattle.problem.specs.Costs.{Pairwise, RuleCost, Costs}
use Rattle.problem.specs.Rules.{Rule}
use Rattle.problem.specs.Timetables.{Satisfies}
use Rattle.problem.specs.declared.day.Day.{Day}
use Rattle.search.specs.Selections.{price}
use Rattle.search.specs.Searches.{State, After, Ended}
use Rattle.search.specs.Theorems.{Agree}
use Rattle.search.proofs.Ranks.{Ranked, ranked, Alike, self, join_at_most}
use Rattle.search.proofs.Choosing.{selected_allowed}
use Rattle.search.proofs.Sound.{plan_sure, none_allowed, lowest, exact_by_rank}

-- another order, made by exchanging neighbours
data Reordered {X : Type 0} : List X → List X → Type 0 where
  same : (xs : List X) → Reordered xs xs
  cons : (x : X) {xs ys : List X} → Reordered xs ys → Reordered (x ∷ xs) (x ∷ ys)
  swap : (x y : X) (xs : List X) → Reordered (x ∷ (y ∷ xs)) (y ∷ (x ∷ xs))
  both : {xs ys zs : List X} → Reordered xs ys → Reordered ys zs → Reordered xs zs

module _ {X : Type 0} where
  -- the first and a later element in each other's place
  first_exchanged : (x : X) (xs : List X) (j : ℕ) (d : X) → j < length xs → Reordered (x ∷ xs) (get_or xs j d ∷ set xs j x)
  first_exchanged x [] j d l = absurd (omega arith)
  first_exchanged x (y ∷ ys) zero d l = swap x y ys
  first_exchanged x (y ∷ ys) (suc j) d l =
      both (swap x y ys) (both (cons y (first_exchanged x ys j d (le_of_suc-le-suc l))) (swap y (get_or ys j d) (set ys j x)))

  two_exchanged : (xs : List X) (i j : ℕ) (d : X) → i < length xs → j < length xs → Reordered xs (set (set xs i (get_or xs j d)) j (get_or xs i d))
  two_exchanged [] i j d k l = absurd (omega arith)
  two_exchanged (x ∷ xs) zero zero d k l = same (x ∷ xs)
  two_exchanged (x ∷ xs) zero (suc j) d k l = first_exchanged x xs j d (le_of_suc-le-suc l)
  two_exchanged (x ∷ xs) (suc i) zero d k l = first_exchanged x xs i d (le_of_suc-le-suc k)
  two_exchanged (x ∷ xs) (suc i) (suc j) d k l = cons x (two_exchanged xs i j d (le_of_suc-le-suc k) (le_of_suc-le-suc l))

  exchanged_reordered : (xs : List X) (i j : ℕ) → i < length xs → j < length xs → Reordered xs (exchanged xs i j)
  exchanged_reordered [] i j k l = same []
  exchanged_reordered (x ∷ xs) i j k l = two_exchanged (x ∷ xs) i j x k l

  shuffled_reordered : (xs ys : List X) → IsPermutation xs ys → Reordered xs ys
  shuffled_reordered xs ys h =
      IsPermutation-keeps xs (Reordered xs) (same xs) (λ zs i j k l r. both r (exchanged_reordered zs i j k l)) ys h

module _ {C : Type 0} (way : Way C) (laws : Ranked way) (T : ℕ → ℕ) where
  alike_self : (x : C) → Alike way x x
  alike_self x = (self way laws x, self way laws x)

  alike_trans : (x y z : C) → Alike way x y → Alike way y z → Alike way x z
  alike_trans x y z h k = (laws.trans x y z h.0 k.0, laws.trans z y x k.1 h.1)

  -- rule costs that join, on top of a, to a cost of the rank of c
  abbrev Joins : C → List Rule → C → Type 0
  Joins a rules c = (each : List C) × Pairwise (RuleCost way T) rules each × Alike way (fold way.join a each) c

  join_swap : (a x y : C) → Alike way (way.join (way.join a y) x) (way.join (way.join a x) y)
  join_swap a x y =
      alike_trans _ _ _ (laws.assoc a y x)
      (alike_trans _ _ _ (join_at_most way laws a a _ _ (self way laws a) (laws.comm y x).0, join_at_most way laws a a _ _ (self way laws a) (laws.comm y x).1)
      ((laws.assoc a x y).1, (laws.assoc a x y).0))

  fold_alike : (a b : C) (each : List C) → Alike way a b → Alike way (fold way.join a each) (fold way.join b each)
  fold_alike a b [] h = h
  fold_alike a b (x ∷ each) h =
      fold_alike (way.join a x) (way.join b x) each (laws.mono a b x h.0, laws.mono b a x h.1)

  joins_cons : (a : C) (r : Rule) (xs ys : List Rule) (c : C) → ((b : C) → Joins b xs c → Joins b ys c) → Joins a (r ∷ xs) c → Joins a (r ∷ ys) c
  joins_cons a r xs ys c f ([], p, e) = absurd p
  joins_cons a r xs ys c f (x ∷ each, p, e) = let t = f (way.join a x) (each, p.1, e) in (x ∷ t.0, (p.0, t.1), t.2)

  joins_swap : (a : C) (r q : Rule) (xs : List Rule) (c : C) → Joins a (r ∷ (q ∷ xs)) c → Joins a (q ∷ (r ∷ xs)) c
  joins_swap a r q xs c ([], p, e) = absurd p
  joins_swap a r q xs c (x ∷ [], p, e) = absurd p.1
  joins_swap a r q xs c (x ∷ (y ∷ each), p, e) =
      (y ∷ (x ∷ each), (p.1.0, (p.0, p.1.1)), alike_trans _ _ _ (fold_alike _ _ each (join_swap a x y)) e)

  joins_reordered : (a : C) (c : C) {xs ys : List Rule} → Reordered xs ys → Joins a xs c → Joins a ys c
  joins_reordered a c (same xs) h = h
  joins_reordered a c (cons r {xs} {ys} p) h = joins_cons a r xs ys c (λ b. joins_reordered b c p) h
  joins_reordered a c (swap r q xs) h = joins_swap a r q xs c h
  joins_reordered a c (both p q) h = joins_reordered a c q (joins_reordered a c p h)

  -- a timetable costs the same, by rank
  pub costs_shuffled : (rules rules' : List Rule) → IsPermutation rules rules' → (c : C) → Costs way T rules c → (d : C) × Costs way T rules' d × Alike way d c
  costs_shuffled rules rules' p c h =
      let t = joins_reordered way.zero c (shuffled_reordered rules rules' p) (h.each, h.priced, subst (Alike way (fold way.join way.zero h.each)) h.joined (alike_self _)) in
      (fold way.join way.zero t.0, record { each = t.0; priced = t.1; joined = refl }, t.2)

-- a timetable costs the same
pub costs_same : {C : Type 0} (way : Way C) → Laws way → (T : ℕ → ℕ) (rules rules' : List Rule) → IsPermutation rules rules' → (c : C) → Costs way T rules c → Costs way T rules' c
costs_same way laws T rules rules' p c h =
    let t = costs_shuffled way (ranked way laws) T rules rules' p c h in
    subst (Costs way T rules') (laws.antisym _ _ t.2.0 t.2.1) t.1

module _ {C : Type 0} (way : Way C) (laws : Laws way) (day : Day) where
  -- an ended search of some rules, with this plan
  pub record EndedWith (rules : List Rule) (kept : Option (List ℕ)) : Type 0 where
    pub steps : ℕ
    pub state : State
    pub after : After way day rules steps state
    pub ended : Ended rules state
    pub keeps : state.kept ≡ kept

  -- where one search has a plan, something is allowed under the other order too
  not_only_one : (rules rules' : List Rule) (plan : List ℕ) → IsPermutation rules rules' → EndedWith rules (Some plan) → EndedWith rules' None → ⊥
  not_only_one rules rules' plan p s t =
      let sure = plan_sure way (ranked way laws) day rules s.steps s.state s.after plan s.keeps in
      let T = sure.1.0 in
      none_allowed way (ranked way laws) day rules' t.steps t.state t.after t.ended t.keeps T sure.1.1.0
      (all_shuffled (Satisfies T) rules rules' p (selected_allowed T rules plan sure.0 sure.1.1.1))

  -- the plan of the other order costs at most as much
  plan_at_most : (rules rules' : List Rule) (plan plan' : List ℕ) → IsPermutation rules rules' → EndedWith rules (Some plan) → EndedWith rules' (Some plan')
      → AtMost way (price way rules' plan') (price way rules plan)
  plan_at_most rules rules' plan plan' p s t =
      let sure = plan_sure way (ranked way laws) day rules s.steps s.state s.after plan s.keeps in
      let T = sure.1.0 in
      let met = exact_by_rank way laws day rules s.steps s.state s.after s.ended plan s.keeps T sure.1.1 in
      let other = costs_shuffled way (ranked way laws) T rules rules' p met.0 met.1 in
      laws.trans _ _ _
      (lowest way (ranked way laws) day rules' t.steps t.state t.after t.ended plan' t.keeps T other.0 sure.1.1.0 other.1)
      (laws.trans _ _ _ other.2.0 met.2.0)

  agree_plans : (rules rules' : List Rule) → IsPermutation rules rules' → (o o' : Option (List ℕ)) → EndedWith rules o → EndedWith rules' o' → Agree way rules rules' o o'
  agree_plans rules rules' p None None s t = tt
  agree_plans rules rules' p None (Some plan') s t = not_only_one rules' rules plan' (IsPermutation-sym rules rules' p) t s
  agree_plans rules rules' p (Some plan) None s t = not_only_one rules rules' plan p s t
  agree_plans rules rules' p (Some plan) (Some plan') s t =
      laws.antisym _ _ (plan_at_most rules' rules plan' plan (IsPermutation-sym rules rules' p) t s) (plan_at_most rules rules' plan plan' p s t)

  pub agree : (rules rules' : List Rule) → IsPermutation rules rules' → (k l : ℕ) (s t : State)
      → After way day rules k s → Ended rules s → After way day rules' l t → Ended rules' t → Agree way rules rules' s.kept t.kept
  agree rules rules' p k l s t a e b f =
      agree_plans rules rules' p s.kept t.kept
      (record { steps = k; state = s; after = a; ended = e; keeps = refl }) (record { steps = l; state = t; after = b; ended = f; keeps = refl })
