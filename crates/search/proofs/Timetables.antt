-- Whether some timetable of a day has a property can be told where the property can be told of each.
use Rattle.std.proofs.Common.{◌≡◌, ℕ, zero, suc, ◌<◌, ◌≤◌, ◌⊎◌, List, [], ◌∷◌, map, length, sym, refl, ap, ◌∙◌, subst, inl, inr, suc-le-suc, le_refl, le_of_suc-le-suc, arith, below_more}
use native.Mathlib.Nat.{suc_inj}
use Rattle.std.specs.List.{range_with_len, AllByRecursion}
use Rattle.std.proofs.lemmas.List.FromFn.{length-map-range_with_len, get_or-map-range_with_len}
use Rattle.std.proofs.ByRecursion.{All-get_or, All-from_get_or}
use Rattle.std.proofs.lemmas.Bool.{cases_eq}
use Rattle.problem.specs.Timetables.{OfDay, minute}
use Rattle.problem.specs.declared.day.Day.{Day}

-- a property holds or does not
abbrev pub Decided : Type 0 → Type 0
Decided A = A ⊎ (A → ⊥)

-- the least number below k with Q, or none: all below have P
pub least_number : (P Q : ℕ → Type 0) → ((n : ℕ) → P n ⊎ Q n) → (k : ℕ)
    → ((n : ℕ) → n < k → P n) ⊎ ((j : ℕ) × (j < k) × Q j × ((n : ℕ) → n < j → P n))
least_number P Q d zero = inl (λ n l. absurd (omega arith))
least_number P Q d (suc k) =
    elim (least_number P Q d k) [
      | inl h ↦ elim (d k) [ inl p ↦ inl (λ n l. below_more P k h p n (omega arith)) | inr q ↦ inr (k, le_refl (suc k), q, h) ]
      | inr f ↦ inr (f.0, omega arith, f.2, f.3)
    ]

module _ (h : ℕ) where
  -- some list of n minutes up to h has P
  abbrev SomeMinutes : ℕ → (List ℕ → Type 0) → Type 0
  SomeMinutes n P = (ms : List ℕ) × (length ms ≡ n) × AllByRecursion (λ m. m ≤ h) ms × P ms

  -- with one minute in front
  longer : (n : ℕ) (P : List ℕ → Type 0) (m : ℕ) → m ≤ h → SomeMinutes n (λ ms. P (m ∷ ms)) → SomeMinutes (suc n) P
  longer n P m l (ms, e, a, p) = (m ∷ ms, ap suc e, (l, a), p)

  none_longer : (n : ℕ) (P : List ℕ → Type 0) → ((m : ℕ) → m < suc h → SomeMinutes n (λ ms. P (m ∷ ms)) → ⊥) → SomeMinutes (suc n) P → ⊥
  none_longer n P f ([], e, a, p) = let z : ◌≡◌ {A = ℕ} 0 (suc n) = e in omega arith
  none_longer n P f (m ∷ ms, e, a, p) = f m (suc-le-suc a.0) (ms, suc_inj e, a.1, p)

  some_minutes : (n : ℕ) (P : List ℕ → Type 0) → ((ms : List ℕ) → Decided (P ms)) → Decided (SomeMinutes n P)
  some_minutes zero P d = elim (d []) [ inl p ↦ inl ([], refl, tt, p) | inr k ↦ inr (none_empty P k) ]
    where
      none_empty : (P : List ℕ → Type 0) → (P [] → ⊥) → SomeMinutes zero P → ⊥
      none_empty P k ([], e, a, p) = k p
      none_empty P k (m ∷ ms, e, a, p) = let z : suc (length ms) ≡ 0 = e in omega arith
  some_minutes (suc n) P d =
      elim (least_number (λ m. SomeMinutes n (λ ms. P (m ∷ ms)) → ⊥) (λ m. SomeMinutes n (λ ms. P (m ∷ ms)))
      (λ m. elim (some_minutes n (λ ms. P (m ∷ ms)) (λ ms. d (m ∷ ms))) [ inl p ↦ inr p | inr k ↦ inl k ]) (suc h)) [
        | inl f ↦ inr (none_longer n P f)
        | inr t ↦ inl (longer n P t.0 (le_of_suc-le-suc t.1) t.2)
      ]

module _ (day : Day) where
  -- T and U give the events of the day the same minutes
  abbrev pub SameDay : (ℕ → ℕ) → (ℕ → ℕ) → Type 0
  SameDay T U = (i : ℕ) → i < day.events → T i ≡ U i

  -- the minutes of the day as a list
  listed : (ℕ → ℕ) → List ℕ
  listed T = map T (range_with_len 0 day.events)

  listed_same : (T : ℕ → ℕ) → SameDay T (minute (listed T))
  unfolding listed
  listed_same T i l = sym (get_or-map-range_with_len T 0 day.events i i 0 l (omega arith))

  listed_length : (T : ℕ → ℕ) → length (listed T) ≡ day.events
  unfolding listed
  listed_length T = length-map-range_with_len T 0 day.events

  listed_within : (T : ℕ → ℕ) → OfDay day T → AllByRecursion (λ m. m ≤ day.horizon) (listed T)
  listed_within T d =
      All-from_get_or (λ m. m ≤ day.horizon) (listed T) 0 λ i l.
      let within : i < day.events = omega (arith, listed_length T) in
      subst (λ m. m ≤ day.horizon) (listed_same T i within) (d.1 i within)

  module _ (Q : (ℕ → ℕ) → Type 0) (decide : (T : ℕ → ℕ) → Decided (Q T)) (local : (T U : ℕ → ℕ) → SameDay T U → Q T → Q U) where
    -- the list is a timetable of the day, and has Q
    Fits : List ℕ → Type 0
    Fits ms = (minute ms 0 ≡ 0) × Q (minute ms)

    fits_or_not : (ms : List ℕ) → Decided (Fits ms)
    unfolding Fits
    fits_or_not ms =
        elim (cases_eq (minute ms 0) 0) [
          | inl e ↦ elim (decide (minute ms)) [ inl q ↦ inl (e, q) | inr k ↦ inr (λ f. k f.1) ]
          | inr k ↦ inr (λ f. k f.0)
        ]

    from_list : SomeMinutes day.horizon day.events Fits → (T : ℕ → ℕ) × OfDay day T × Q T
    unfolding Fits
    from_list (ms, e, a, (z, q)) =
        (minute ms, (z, λ i l. All-get_or (λ m. m ≤ day.horizon) ms i 0 (omega arith) a), q)

    to_list : (T : ℕ → ℕ) → OfDay day T → Q T → SomeMinutes day.horizon day.events Fits
    unfolding Fits
    to_list T d q =
        (listed T, listed_length T, listed_within T d, (sym (listed_same T 0 day.some) ∙ d.0, local T (minute (listed T)) (listed_same T) q))

    -- some timetable of the day has Q, or none has
    pub some_timetable : ((T : ℕ → ℕ) × OfDay day T × Q T) ⊎ ((T : ℕ → ℕ) → OfDay day T → Q T → ⊥)
    some_timetable =
        elim (some_minutes day.horizon day.events Fits fits_or_not) [
          | inl s ↦ inl (from_list s)
          | inr n ↦ inr (λ T d q. n (to_list T d q))
        ]
