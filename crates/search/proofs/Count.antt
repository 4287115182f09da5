-- Each step settles one selection more, so there are no more steps than selections.
use Rattle.std.proofs.Common.{◌≡◌, ℕ, zero, suc, ◌+◌, ◌*◌, ◌<◌, ◌≤◌, Bool, true, false, cond, List, [], ◌∷◌, length, refl, subst, inl, inr, zero-le, le_trans, le_refl, add-le-add, suc-mul, arith}
use Rattle.std.proofs.lemmas.Bool.{cases_eq}
use Rattle.counting.specs.Ways.{Way}
use Rattle.problem.specs.Rules.{Rule}
use Rattle.problem.specs.Timetables.{choices}
use Rattle.problem.specs.declared.day.Day.{Day}
use Rattle.search.specs.Selections.{Selection, selections}
use Rattle.search.specs.Searches.{State, Settled, Step, After}

-- the numbers that f has below k, added up
sum_below : ℕ → (ℕ → ℕ) → ℕ
sum_below zero f = 0
sum_below (suc k) f = f k + sum_below k f

sum_mono : (k : ℕ) (f g : ℕ → ℕ) → ((n : ℕ) → n < k → f n ≤ g n) → sum_below k f ≤ sum_below k g
unfolding sum_below
sum_mono zero f g h = zero-le
sum_mono (suc k) f g h = add-le-add (h k (le_refl (suc k))) (sum_mono k f g (λ n l. h n (omega arith)))

-- the last number is the one that grew, or an earlier one is
strict_step : (k : ℕ) (f g : ℕ → ℕ) (m : ℕ) → m < suc k → f m < g m → ((n : ℕ) → n < suc k → f n ≤ g n)
    → (m < k → sum_below k f < sum_below k g) → f k + sum_below k f < g k + sum_below k g
strict_step k f g m l i h r =
    elim (cases_eq m k) [
      | inl e ↦ (let j : f k < g k = subst (λ n. f n < g n) e i in
          let t : sum_below k f ≤ sum_below k g = sum_mono k f g (λ n b. h n (omega arith)) in
          omega arith)
      | inr n ↦ (let j : f k ≤ g k = h k (le_refl (suc k)) in
          let t : sum_below k f < sum_below k g = r (omega arith) in
          omega arith)
    ]

sum_strict : (k : ℕ) (f g : ℕ → ℕ) (m : ℕ) → m < k → f m < g m → ((n : ℕ) → n < k → f n ≤ g n) → sum_below k f < sum_below k g
unfolding sum_below
sum_strict zero f g m l i h = absurd (omega arith)
sum_strict (suc k) f g m l i h = strict_step k f g m l i h (λ b. sum_strict k f g m b i (λ n c. h n (omega arith)))

sum_bound : (k b : ℕ) (f : ℕ → ℕ) → ((n : ℕ) → f n ≤ b) → sum_below k f ≤ k * b
unfolding sum_below
sum_bound zero b f h = zero-le
sum_bound (suc k) b f h =
    let i : f k ≤ b = h k in
    let j : sum_below k f ≤ k * b = sum_bound k b f h in
    rw suc-mul (omega arith)

-- 1 for what passes a test
abbrev one_if : Bool → ℕ
one_if b = cond b 1 0

one_mono : (b c : Bool) → (b ≡ true → c ≡ true) → one_if b ≤ one_if c
one_mono b c h = grind arith

one_strict : (b c : Bool) → b ≡ false → c ≡ true → one_if b < one_if c
one_strict b c n h = grind arith

one_bound : (b : Bool) → one_if b ≤ 1
one_bound b = grind arith

-- how many selections pass a test
pub count : List Rule → (List ℕ → Bool) → ℕ
count [] p = one_if (p [])
count (r ∷ rules) p = sum_below (length (choices r)) (λ n. count rules (λ ns. p (n ∷ ns)))

-- what passes the one test passes the other
abbrev Wider : List Rule → (List ℕ → Bool) → (List ℕ → Bool) → Type 0
Wider rules p q = (ns : List ℕ) → Selection rules ns → p ns ≡ true → q ns ≡ true

count_mono : (rules : List Rule) (p q : List ℕ → Bool) → Wider rules p q → count rules p ≤ count rules q
unfolding count
count_mono [] p q h = one_mono (p []) (q []) (h [] tt)
count_mono (r ∷ rules) p q h =
    sum_mono (length (choices r)) (λ n. count rules (λ ns. p (n ∷ ns))) (λ n. count rules (λ ns. q (n ∷ ns)))
    (λ n l. count_mono rules (λ ns. p (n ∷ ns)) (λ ns. q (n ∷ ns)) (λ ns s. h (n ∷ ns) (l, s)))

count_strict : (rules : List Rule) (p q : List ℕ → Bool) (ns : List ℕ) → Selection rules ns → p ns ≡ false → q ns ≡ true → Wider rules p q
    → count rules p < count rules q
unfolding count
count_strict [] p q [] s n y h = one_strict (p []) (q []) n y
count_strict [] p q (m ∷ ns) s n y h = absurd s
count_strict (r ∷ rules) p q [] s n y h = absurd s
count_strict (r ∷ rules) p q (m ∷ ns) s n y h =
    sum_strict (length (choices r)) (λ k. count rules (λ ms. p (k ∷ ms))) (λ k. count rules (λ ms. q (k ∷ ms))) m s.0
    (count_strict rules (λ ms. p (m ∷ ms)) (λ ms. q (m ∷ ms)) ns s.1 n y (λ ms t. h (m ∷ ms) (s.0, t)))
    (λ k l. count_mono rules (λ ms. p (k ∷ ms)) (λ ms. q (k ∷ ms)) (λ ms t. h (k ∷ ms) (l, t)))

count_bound : (rules : List Rule) (p : List ℕ → Bool) → count rules p ≤ selections rules
unfolding count
count_bound [] p = one_bound (p [])
count_bound (r ∷ rules) p =
    sum_bound (length (choices r)) (selections rules) (λ n. count rules (λ ns. p (n ∷ ns))) (λ n. count_bound rules (λ ns. p (n ∷ ns)))

module _ {C : Type 0} (way : Way C) (day : Day) (rules : List Rule) where
  step_grows : (s t : State) → Step way day rules s t → Wider rules s.settled t.settled
  step_grows s t p ns r h = elim p.does [ inl k ↦ (k.settles ns r).1 (inl h) | inr k ↦ (k.settles ns r).1 (inl h) ]

  step_settles : (s t : State) (p : Step way day rules s t) → Settled t p.ns
  step_settles s t p =
      elim p.does [
        | inl k ↦ (k.settles p.ns p.first.selection).1 (inr refl)
        | inr k ↦ (k.settles p.ns p.first.selection).1 (inr refl)
      ]

  after_count : (k : ℕ) (s : State) → After way day rules k s → k ≤ count rules s.settled
  after_count zero s a = zero-le
  after_count (suc k) t a =
      let i : k ≤ count rules a.0.settled = after_count k a.0 a.1 in
      let j : count rules a.0.settled < count rules t.settled =
      count_strict rules a.0.settled t.settled a.2.ns a.2.first.selection a.2.first.unsettled
      (step_settles a.0 t a.2) (step_grows a.0 t a.2) in
      omega arith

  -- no more steps than selections
  pub bound : (k : ℕ) (s : State) → After way day rules k s → k ≤ selections rules
  bound k s a = le_trans (after_count k s a) (count_bound rules s.settled)
