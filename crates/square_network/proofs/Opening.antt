-- No limits: the distances that a day begins with are closed.
use Rattle.std.specs.Prelude.{◌≡◌, ℕ, ◌<◌, ◌||◌, ◌⊎◌, ℤ, pos, ◌+ℤ◌, ◌≤ℤ◌, ◌==◌, ◌≢◌, refl}
use Rattle.std.proofs.Common.{if◌then◌else◌, set, replicate, get_or, length, ◌+◌, [], ◌≤◌, sym, ap, subst, ◌∙◌, inl, inr, ⊎_elim, arith}
use Rattle.std.proofs.lemmas.Int.{ints}
use Rattle.std.proofs.lemmas.Bool.{cases_eq, cond-true, cond-false, or_left, or_right, or_from, eq-eqb, ne_eqb}
use Rattle.std.proofs.lemmas.List.{get_or-set_same, get_or-set_other, get_or-replicate, length-replicate, length-set}
use Rattle.problem.specs.Bounds.{max_events}
use Rattle.problem.specs.declared.day.Day.{Day}
use Rattle.square_network.specs.Distances.{Square, at, opening, Zeros, Triangle, Starts, Ends, Opened}
use Rattle.square_network.specs.Rows.{to}

module _ (day : Day) (i j : ℕ) where
  opening_zero : (i ≡ 0) ⊎ (i ≡ j) → opening day i j ≡ pos 0
  opening_zero why =
      cond-true (i == 0 || i == j) (pos 0) (pos day.horizon)
      (⊎_elim (λ (e : i ≡ 0). or_left (i == 0) (i == j) (eq-eqb i 0 e)) (λ (e : i ≡ j). or_right (i == 0) (i == j) (eq-eqb i j e)) why)

  opening_far : (i ≢ 0) → (i ≢ j) → opening day i j ≡ pos day.horizon
  opening_far a b =
      cond-false (i == 0 || i == j) (pos 0) (pos day.horizon) (or_from (i == 0) (i == j) (ne_eqb i 0 a) (ne_eqb i j b))

module _ (day : Day) (D : Square) (opened : Opened day D) where
  near_by : (i j : ℕ) → i < day.events → j < day.events → (i ≡ 0) ⊎ (i ≡ j) → at D i j ≡ pos 0
  near_by i j p q why = opened i j p q ∙ opening_zero day i j why

  far_off : (i j : ℕ) → i < day.events → j < day.events → (i ≢ 0) → (i ≢ j) → at D i j ≡ pos day.horizon
  far_off i j p q a b = opened i j p q ∙ opening_far day i j a b

  -- by the three cases of a place
  split : (P : ℤ → Type 0) (i j : ℕ) → i < day.events → j < day.events → ((i ≡ 0) ⊎ (i ≡ j) → P (pos 0))
      → ((i ≢ 0) → (i ≢ j) → P (pos day.horizon)) → P (at D i j)
  split P i j p q zero far =
      ⊎_elim
      (λ (a : i ≡ 0). subst P (sym (near_by i j p q (inl a))) (zero (inl a)))
      (λ (a : i ≡ 0 → ⊥).
      ⊎_elim
      (λ (b : i ≡ j). subst P (sym (near_by i j p q (inr b))) (zero (inr b)))
      (λ (b : i ≡ j → ⊥). subst P (sym (far_off i j p q a b)) (far a b))
      (cases_eq i j))
      (cases_eq i 0)

  range : (i j : ℕ) → i < day.events → j < day.events → (pos 0 ≤ℤ at D i j) × (at D i j ≤ℤ pos day.horizon)
  range i j p q =
      split (λ z. (pos 0 ≤ℤ z) × (z ≤ℤ pos day.horizon)) i j p q (λ _. (omega (arith, ints), omega (arith, ints)))
      (λ _ _. (omega (arith, ints), omega (arith, ints)))

  pub opened_triangle : Triangle day D
  opened_triangle i j m p q r =
      let u = range i j p q in
      let v = range j m q r in
      split (λ z. z ≤ℤ (at D i j +ℤ at D j m)) i m p r (λ _. omega (arith, ints))
      (λ a b.
      ⊎_elim
      (λ (e : i ≡ j).
      let F : ℕ → Type 0 = λ k. at D k m ≡ pos day.horizon in
      let f : at D j m ≡ pos day.horizon = subst F e (far_off i m p r a b) in
      omega (arith, ints))
      (λ (e : i ≡ j → ⊥). let f = far_off i j p q a e in omega (arith, ints))
      (cases_eq i j))

  pub opened_zeros : Zeros day D
  opened_zeros i p = near_by i i p p (inr refl)

  pub opened_starts : Starts day D
  opened_starts i p = let e = near_by 0 i day.some p (inl refl) in omega (arith, ints)

  pub opened_ends : Ends day D
  opened_ends i p = (range i 0 p day.some).1

-- as far as event i is from every other
abbrev pub reach : Day → ℕ → ℤ
reach day i = if i == 0 then pos 0 else pos day.horizon

-- the row of event i: as far to every event but itself
module _ (day : Day) (i : ℕ) (row : i < max_events) where
  elsewhere : (j : ℕ) → (i ≢ j) → reach day i ≡ opening day i j
  elsewhere j apart =
      ⊎_elim
      (λ (e : i ≡ 0). cond-true (i == 0) (pos 0) (pos day.horizon) (eq-eqb i 0 e) ∙ sym (opening_zero day i j (inl e)))
      (λ (e : i ≡ 0 → ⊥). cond-false (i == 0) (pos 0) (pos day.horizon) (ne_eqb i 0 e) ∙ sym (opening_far day i j e apart))
      (cases_eq i 0)

  row_opened : (j : ℕ) → j < day.events → to (set (replicate max_events (reach day i)) i (pos 0)) j ≡ opening day i j
  row_opened j column =
      ⊎_elim
      (λ (e : j ≡ i).
      let F : ℕ → Type 0 = λ k. to (set (replicate max_events (reach day i)) i (pos 0)) k ≡ opening day i k in
      subst F (sym e) (get_or-set_same (replicate max_events (reach day i)) i (pos 0) (pos 0) (simp length-replicate row) ∙ sym (opening_zero day i i (inr refl))))
      (λ (apart : j ≡ i → ⊥).
      get_or-set_other (replicate max_events (reach day i)) i j (pos 0) (pos 0) apart ∙ get_or-replicate max_events j (reach day i) (pos 0) (omega (arith, day.few))
      ∙ elsewhere j (λ e. apart (sym e)))
      (cases_eq j i)

-- the first i rows are written, and the others are as far to every event
pub record RowsOpened (day : Day) (i : ℕ) (D : Square) : Type 0 where
  pub size : length D ≡ max_events
  pub done : (k j : ℕ) → k < i → j < day.events → at D k j ≡ opening day k j
  pub left : (k : ℕ) → i ≤ k → k < max_events → get_or D k [] ≡ replicate max_events (reach day k)

module _ (day : Day) where
  pub opened_none : (far : ℤ) → far ≡ pos day.horizon → (D : Square)
      → D ≡ set (replicate max_events (replicate max_events far)) 0 (replicate max_events (pos 0)) → RowsOpened day 0 D
  opened_none far is D filled = record { size = ap length filled; done = λ k j lt. absurd (omega arith); left = left }
    where
      left : (k : ℕ) → 0 ≤ k → k < max_events → get_or D k [] ≡ replicate max_events (reach day k)
      left k le lt =
          ⊎_elim
          (λ (e : k ≡ 0).
          let G : ℕ → Type 0 = λ m. get_or D m [] ≡ replicate max_events (reach day m) in
          subst G (sym e) (ap (λ E. get_or E 0 []) filled))
          (λ (apart : k ≡ 0 → ⊥).
          ap (λ E. get_or E k []) filled
          ∙ get_or-set_other (replicate max_events (replicate max_events far)) 0 k (replicate max_events (pos 0)) [] apart
          ∙ get_or-replicate max_events k (replicate max_events far) [] lt
          ∙ ap (replicate max_events) (is ∙ sym (cond-false (k == 0) (pos 0) (pos day.horizon) (ne_eqb k 0 apart))))
          (cases_eq k 0)

  pub opened_more : (i : ℕ) (D : Square) → RowsOpened day i D → i < max_events → RowsOpened day (i + 1) (set D i (set (get_or D i []) i (pos 0)))
  opened_more i D so_far row = record { size = simp length-set so_far.size; done = done; left = left }
    where
      inside : i < length D
      inside = omega (arith, so_far.size)

      done : (k j : ℕ) → k < i + 1 → j < day.events → at (set D i (set (get_or D i []) i (pos 0))) k j ≡ opening day k j
      done k j lt column =
          ⊎_elim
          (λ (e : k ≡ i).
          let F : ℕ → Type 0 = λ m. at (set D i (set (get_or D i []) i (pos 0))) m j ≡ opening day m j in
          subst F (sym e)
          (ap (λ R. to R j) (get_or-set_same D i (set (get_or D i []) i (pos 0)) [] inside)
          ∙ ap (λ R. to (set R i (pos 0)) j) (so_far.left i (omega arith) row) ∙ row_opened day i row j column))
          (λ (apart : k ≡ i → ⊥).
          ap (λ R. to R j) (get_or-set_other D i k (set (get_or D i []) i (pos 0)) [] apart) ∙ so_far.done k j (omega arith) column)
          (cases_eq k i)

      left : (k : ℕ) → i + 1 ≤ k → k < max_events → get_or (set D i (set (get_or D i []) i (pos 0))) k [] ≡ replicate max_events (reach day k)
      left k le lt =
          let apart : k ≡ i → ⊥ = λ e. omega arith in
          get_or-set_other D i k (set (get_or D i []) i (pos 0)) [] apart ∙ so_far.left k (omega arith) lt
