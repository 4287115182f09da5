-- Selections and timetables: what a timetable meets, and what it costs.
use Rattle.std.proofs.Common.{◌≡◌, ℕ, zero, suc, ◌<◌, ◌⊎◌, List, [], ◌∷◌, ◌++◌, map, length, get_or, take, ◌≤ℤ◌, ◌<ℤ◌, Some, None, fold, Option, sym, refl, ap, ◌∙◌, subst, ap₂, inl, inr, suc-le-suc, zero-le, le_of_suc-le-suc, arith}
use Rattle.std.specs.List.{AllByRecursion}
use Rattle.std.proofs.ByRecursion.{All-take, All-get_or}
use Rattle.std.proofs.lemmas.List.{append_assoc, append-nil, take-map}
use Rattle.std.proofs.lemmas.Int.{ints, by_lt_z}
use Rattle.counting.specs.Ways.{Way, AtMost, Laws}
use Rattle.problem.specs.Costs.{Pairwise, choice_cost, RuleCost, Costs}
use Rattle.problem.specs.Rules.{Rule}
use Rattle.problem.specs.Timetables.{Choice, option, give_up, choices, gap, Chosen, Any, Satisfies, Allowed}
use Rattle.problem.specs.declared.day.Day.{Day}
use Rattle.costing.specs.Cheapest.{lesser, Cheapest}
use Rattle.costing.proofs.Cheaper.{cheapest_met, cheapest_unmet, some_of_all, some_const}
use Rattle.search.specs.Selections.{no_choice, picked, Selection, Met, Feasible, price}
use Rattle.search.proofs.Ranks.{Ranked, self, fold_take, fold_at_most}

-- a prefix picks the first choices
pub picked_take : (rules : List Rule) (ns : List ℕ) (j : ℕ) → picked rules (take j ns) ≡ take j (picked rules ns)
picked_take [] ns zero = refl
picked_take [] ns (suc j) = refl
picked_take (r ∷ rules) [] zero = refl
picked_take (r ∷ rules) [] (suc j) = refl
picked_take (r ∷ rules) (n ∷ ns) zero = refl
picked_take (r ∷ rules) (n ∷ ns) (suc j) = ap (λ chs. get_or (choices r) n no_choice ∷ chs) (picked_take rules ns j)

-- what meets a selection meets its prefixes
pub met_take : (day : Day) (rules : List Rule) (T : ℕ → ℕ) (ns : List ℕ) (j : ℕ) → Met day rules T ns → Met day rules T (take j ns)
met_take day rules T ns j m = (m.0, subst (AllByRecursion (Chosen T)) (sym (picked_take rules ns j)) (All-take (Chosen T) j (picked rules ns) m.1))

pub feasible_take : (day : Day) (rules : List Rule) (ns : List ℕ) (j : ℕ) → Feasible day rules ns → Feasible day rules (take j ns)
feasible_take day rules ns j f = (f.0, met_take day rules f.0 ns j f.1)

-- a prefix costs at most what the whole costs
pub price_take : {C : Type 0} (way : Way C) → Ranked way → (rules : List Rule) (ns : List ℕ) (j : ℕ)
    → AtMost way (price way rules (take j ns)) (price way rules ns)
price_take way laws rules ns j =
    let costs = map (choice_cost way) (picked rules ns) in
    let e : map (choice_cost way) (picked rules (take j ns)) ≡ take j costs = ap (map (choice_cost way)) (picked_take rules ns j) ∙ sym (take-map (choice_cost way) j (picked rules ns)) in
    subst (λ cs. AtMost way (fold way.join way.zero cs) (price way rules ns)) (sym e) (fold_take way laws way.zero j costs)

-- some element, by its place
module _ {X : Type 0} (P : X → Type 0) where
  pub any_place : (xs : List X) (d : X) → Any P xs → (n : ℕ) × (n < length xs) × P (get_or xs n d)
  any_place [] d h = absurd h
  any_place (x ∷ xs) d (inl h) = (0, suc-le-suc zero-le, h)
  any_place (x ∷ xs) d (inr h) = let t = any_place xs d h in (suc t.0, suc-le-suc t.1, t.2)

  pub place_any : (xs : List X) (n : ℕ) (d : X) → n < length xs → P (get_or xs n d) → Any P xs
  place_any [] n d l h = absurd (omega arith)
  place_any (x ∷ xs) zero d l h = inl h
  place_any (x ∷ xs) (suc n) d l h = inr (place_any xs n d (le_of_suc-le-suc l) h)

module _ (T : ℕ → ℕ) where
  -- a timetable that is allowed meets some selection
  pub allowed_selects : (rules : List Rule) → Allowed T rules → (ns : List ℕ) × Selection rules ns × AllByRecursion (Chosen T) (picked rules ns)
  allowed_selects [] a = ([], tt, tt)
  allowed_selects (r ∷ rules) a =
      let p = any_place (Chosen T) (choices r) no_choice a.0 in
      let t = allowed_selects rules a.1 in
      (p.0 ∷ t.0, (p.1, t.1), (p.2, t.2))

  -- and the other way
  pub selected_allowed : (rules : List Rule) (ns : List ℕ) → Selection rules ns → AllByRecursion (Chosen T) (picked rules ns) → Allowed T rules
  selected_allowed [] ns s m = tt
  selected_allowed (r ∷ rules) [] s m = absurd s
  selected_allowed (r ∷ rules) (n ∷ ns) s m = (place_any (Chosen T) (choices r) n no_choice s.0 m.0, selected_allowed rules ns s.1 m.1)

  -- whether it meets an option can be told
  pub met_or_not : (ch : Choice) → Chosen T ch ⊎ (Chosen T ch → ⊥)
  met_or_not (give_up p) = inl tt
  met_or_not (option d) =
      let g = gap T d.x d.y in
      by_lt_z g d.lo (λ (h : g <ℤ d.lo). inr (λ m. let below : d.lo ≤ℤ g = m.0 in omega (arith, ints)))
      (λ (h : d.lo ≤ℤ g). by_lt_z d.hi g (λ (i : d.hi <ℤ g). inr (λ m. let above : g ≤ℤ d.hi = m.1 in omega (arith, ints))) (λ (i : g ≤ℤ d.hi). inl (h, i)))

module _ {C : Type 0} (way : Way C) (T : ℕ → ℕ) where
  -- the selection of the cheapest choices that T meets
  costs_select : (rules : List Rule) (each : List C) → Pairwise (RuleCost way T) rules each
      → (ns : List ℕ) × Selection rules ns × AllByRecursion (Chosen T) (picked rules ns) × (map (choice_cost way) (picked rules ns) ≡ each)
  costs_select [] [] p = ([], tt, tt, refl)
  costs_select [] (c ∷ cs) p = absurd p
  costs_select (r ∷ rules) [] p = absurd p
  costs_select (r ∷ rules) (c ∷ cs) p =
      let q = any_place (λ ch. Chosen T ch × (choice_cost way ch ≡ c)) (choices r) no_choice p.0.reached in
      let t = costs_select rules cs p.1 in
      (q.0 ∷ t.0, (q.1, t.1), (q.2.0, t.2), ap₂ ◌∷◌ q.2.1 t.3)

  -- what a timetable costs is the price of a selection that it meets
  pub costs_selects : (rules : List Rule) (c : C) → Costs way T rules c
      → (ns : List ℕ) × Selection rules ns × AllByRecursion (Chosen T) (picked rules ns) × (price way rules ns ≡ c)
  costs_selects rules c h =
      let t = costs_select rules h.each h.priced in
      (t.0, t.1, t.2, ap (fold way.join way.zero) t.3 ∙ h.joined)

  -- no choice that T meets costs less than the rule does
  each_lowest : (rules : List Rule) (each : List C) (ns : List ℕ) → Pairwise (RuleCost way T) rules each → Selection rules ns → AllByRecursion (Chosen T) (picked rules ns)
      → Pairwise (AtMost way) each (map (choice_cost way) (picked rules ns))
  each_lowest [] [] ns p s m = tt
  each_lowest [] (c ∷ cs) ns p s m = absurd p
  each_lowest (r ∷ rules) [] ns p s m = absurd p
  each_lowest (r ∷ rules) (c ∷ cs) [] p s m = absurd s
  each_lowest (r ∷ rules) (c ∷ cs) (n ∷ ns) p s m = (
    All-get_or (λ ch. Chosen T ch → AtMost way c (choice_cost way ch)) (choices r) n no_choice s.0 p.0.lowest m.0,
    each_lowest rules cs ns p.1 s.1 m.1,
  )

  -- a timetable costs at most the price of any selection that it meets
  pub costs_lowest : Ranked way → (rules : List Rule) (c : C) (ns : List ℕ) → Costs way T rules c → Selection rules ns → AllByRecursion (Chosen T) (picked rules ns)
      → AtMost way c (price way rules ns)
  costs_lowest laws rules c ns h s m =
      subst (λ x. AtMost way x (price way rules ns)) h.joined
      (fold_at_most way laws way.zero way.zero h.each (map (choice_cost way) (picked rules ns)) (self way laws way.zero) (each_lowest rules h.each ns h.priced s m))

module _ {C : Type 0} (way : Way C) (laws : Laws way) (T : ℕ → ℕ) where
  -- the cheapest of choices, those in front being looked at already
  cheapest_of : (chs more : List Choice) (o : Option C) → Cheapest way T chs o → (o : Option C) × Cheapest way T (chs ++ more) o
  cheapest_of chs [] o h = (o, subst (λ xs. Cheapest way T xs o) (sym (append-nil chs)) h)
  cheapest_of chs (ch ∷ more) o h =
      let again : (o : Option C) → Cheapest way T (chs ++ ch ∷ []) o → (o : Option C) × Cheapest way T (chs ++ ch ∷ more) o =
      λ o k. (let t = cheapest_of (chs ++ ch ∷ []) more o k in (t.0, subst (λ xs. Cheapest way T xs t.0) (append_assoc chs (ch ∷ []) more) t.1)) in
      elim (met_or_not T ch) [
        | inl m ↦ again (Some (lesser way o (choice_cost way ch))) (cheapest_met way laws T chs ch o h m)
        | inr n ↦ again o (cheapest_unmet way laws T chs ch o h n)
      ]

  satisfied_costs : (r : Rule) (o : Option C) → Cheapest way T (choices r) o → Satisfies T r → (c : C) × RuleCost way T r c
  satisfied_costs r (Some c) h s = (c, h)
  satisfied_costs r None h s = absurd (some_const ⊥ (choices r) (some_of_all (Chosen T) (λ ch m n. n m) (choices r) s h))

  allowed_each : (rules : List Rule) → Allowed T rules → (each : List C) × Pairwise (RuleCost way T) rules each
  allowed_each [] a = ([], tt)
  allowed_each (r ∷ rules) a =
      let o = cheapest_of [] (choices r) None tt in
      let c = satisfied_costs r o.0 o.1 a.0 in
      let t = allowed_each rules a.1 in
      (c.0 ∷ t.0, (c.1, t.1))

  -- an allowed timetable has a cost
  pub allowed_costs : (rules : List Rule) → Allowed T rules → (c : C) × Costs way T rules c
  allowed_costs rules a =
      let t = allowed_each rules a in
      (fold way.join way.zero t.0, record { each = t.0; priced = t.1; joined = refl })
