-- The next selection in the order of selections.
use Rattle.std.proofs.Common.{◌≡◌, ℕ, zero, suc, ◌+◌, ◌<◌, ◌≤◌, Bool, true, false, ◌&&◌, ◌||◌, eqb, ltb, ◌⊎◌, List, [], ◌∷◌, length, get_or, take, replicate, sym, refl, ◌∙◌, subst, inl, inr, le_of_suc-le-suc, arith}
use Rattle.std.proofs.lemmas.Bool.{and_parts, and_from, and_left, and_right, or_left, or_right, or_from, lt-ltb, le-ltb, eq-eqb, ne_eqb, ltb-true, false≢true, cases_order}
use Rattle.std.specs.List.{AllByRecursion}
use Rattle.problem.specs.Rules.{Rule}
use Rattle.problem.specs.Timetables.{choices}
use Rattle.search.specs.Tests.{selects, before, same_numbers}
use Rattle.planner.specs.Advancing.{raised}
use Rattle.planner.specs.Choosing.{width_at}
use Rattle.planner.proofs.Choosing.{selects_length}

-- m stands before n, or equal to it with what follows deciding; then the beginnings
abbrev Ahead : ℕ → ℕ → Bool → Bool → Bool
Ahead m n u v = (ltb m n || (eqb m n && u)) || (eqb m n && v)

-- at an equal number, at a lower one, at a higher one
equal : (m n : ℕ) (c u v : Bool) → m ≡ n → c ≡ (u || v) → (ltb m n || (eqb m n && c)) ≡ Ahead m n u v
equal m n c u v e h = same (ltb m n) (eqb m n) c u v (le-ltb m n (omega arith)) (eq-eqb m n e) h
  where
    same : (a b c u v : Bool) → a ≡ false → b ≡ true → c ≡ (u || v) → (a || (b && c)) ≡ ((a || (b && u)) || (b && v))
    same true b c u v p q e = absurd (false≢true (sym p))
    same false false c u v p q e = absurd (false≢true q)
    same false true c u v p q e = e

lower : (m n : ℕ) (u v : Bool) → m < n → Ahead m n u v ≡ true
lower m n u v l = or_left (ltb m n || (eqb m n && u)) (eqb m n && v) (or_left (ltb m n) (eqb m n && u) (lt-ltb m n l))

higher : (m n : ℕ) (u v : Bool) → n < m → Ahead m n u v ≡ false
higher m n u v l =
    or_from (ltb m n || (eqb m n && u)) (eqb m n && v)
    (or_from (ltb m n) (eqb m n && u) (le-ltb m n (omega arith)) (and_left (eqb m n) u (ne_eqb m n (λ e. omega arith))))
    (and_left (eqb m n) v (ne_eqb m n (λ e. omega arith)))

full : (m n : ℕ) (u v : Bool) → m ≡ n → (u || v) ≡ true → Ahead m n u v ≡ true
full m n u v e h = sym (equal m n true u v e (sym h)) ∙ or_right (ltb m n) (eqb m n && true) (and_from (eqb m n) true (eq-eqb m n e) refl)

-- every selection comes before ns or begins with its first j choices, if those are the last of their rules
pub all_ahead : (rules : List Rule) (ns qs : List ℕ) (j : ℕ) → selects rules ns ≡ true → selects rules qs ≡ true → j ≤ length rules
    → ((k : ℕ) → k < j → width_at rules k ≤ get_or ns k 0 + 1) → (before qs ns || same_numbers (take j qs) (take j ns)) ≡ true
all_ahead rules ns qs zero hn hq l last = or_right (before qs ns) true refl
all_ahead [] ns qs (suc j) hn hq l last = absurd (omega arith)
all_ahead (r ∷ rules) [] qs (suc j) hn hq l last = absurd (false≢true hn)
all_ahead (r ∷ rules) (n ∷ ns) [] (suc j) hn hq l last = absurd (false≢true hq)
all_ahead (r ∷ rules) (n ∷ ns) (q ∷ qs) (suc j) hn hq l last =
    let a = and_parts (ltb n (length (choices r))) (selects rules ns) hn in
    let b = and_parts (ltb q (length (choices r))) (selects rules qs) hq in
    go (cases_order q n) (ltb-true _ _ b.0) (last 0 (omega arith)) (all_ahead rules ns qs j a.1 b.1 (omega arith) (λ k h. last (suc k) (omega arith)))
  where
    go : (q ≡ n) ⊎ ((q < n) ⊎ (n < q)) → q < length (choices r) → length (choices r) ≤ n + 1 → (before qs ns || same_numbers (take j qs) (take j ns)) ≡ true
        → Ahead q n (before qs ns) (same_numbers (take j qs) (take j ns)) ≡ true
    go (inl w) d e ih = full q n (before qs ns) (same_numbers (take j qs) (take j ns)) w ih
    go (inr (inl w)) d e ih = lower q n (before qs ns) (same_numbers (take j qs) (take j ns)) w
    go (inr (inr w)) d e ih = absurd (omega arith)

-- nothing stands before the first choices
pub before_first : (qs : List ℕ) (k : ℕ) → before qs (replicate k 0) ≡ false
before_first [] k = refl
before_first (q ∷ qs) zero = refl
before_first (q ∷ qs) (suc k) =
    or_from (ltb q 0) (eqb q 0 && before qs (replicate k 0)) (le-ltb q 0 (omega arith)) (and_right (eqb q 0) (before qs (replicate k 0)) (before_first qs k))

pub raised_before : (rules : List Rule) (ns qs : List ℕ) (i j : ℕ) → selects rules ns ≡ true → selects rules qs ≡ true → i < j → j ≤ length rules
    → ((k : ℕ) → i < k → k < j → width_at rules k ≤ get_or ns k 0 + 1)
    → before qs (raised i ns) ≡ (before qs ns || same_numbers (take j qs) (take j ns))
raised_before rules ns qs i zero hn hq a l last = absurd (omega arith)
raised_before [] ns qs i (suc j) hn hq a l last = absurd (omega arith)
raised_before (r ∷ rules) [] qs i (suc j) hn hq a l last = absurd (false≢true hn)
raised_before (r ∷ rules) (n ∷ ns) [] i (suc j) hn hq a l last = absurd (false≢true hq)
raised_before (r ∷ rules) (n ∷ ns) (q ∷ qs) zero (suc j) hn hq a l last =
    let b = and_parts (ltb q (length (choices r))) (selects rules qs) hq in
    let d = and_parts (ltb n (length (choices r))) (selects rules ns) hn in
    go (cases_order q n) (all_ahead rules ns qs j d.1 b.1 (omega arith) (λ k h. last (suc k) (omega arith) (omega arith)))
  where
    go : (q ≡ n) ⊎ ((q < n) ⊎ (n < q)) → (before qs ns || same_numbers (take j qs) (take j ns)) ≡ true
        → (ltb q (suc n) || (eqb q (suc n) && before qs (replicate (length ns) 0))) ≡ Ahead q n (before qs ns) (same_numbers (take j qs) (take j ns))
    go (inl w) h = or_left (ltb q (suc n)) _ (lt-ltb q (suc n) (omega arith)) ∙ sym (full q n (before qs ns) (same_numbers (take j qs) (take j ns)) w h)
    go (inr (inl w)) h = or_left (ltb q (suc n)) _ (lt-ltb q (suc n) (omega arith)) ∙ sym (lower q n (before qs ns) (same_numbers (take j qs) (take j ns)) w)
    go (inr (inr w)) h =
        or_from (ltb q (suc n)) _ (le-ltb q (suc n) (omega arith)) (and_right (eqb q (suc n)) _ (before_first qs (length ns)))
        ∙ sym (higher q n (before qs ns) (same_numbers (take j qs) (take j ns)) w)
raised_before (r ∷ rules) (n ∷ ns) (q ∷ qs) (suc i) (suc j) hn hq a l last =
    let b = and_parts (ltb q (length (choices r))) (selects rules qs) hq in
    let d = and_parts (ltb n (length (choices r))) (selects rules ns) hn in
    go (cases_order q n) (raised_before rules ns qs i j d.1 b.1 (omega arith) (omega arith) (λ k h m. last (suc k) (omega arith) (omega arith)))
  where
    go : (q ≡ n) ⊎ ((q < n) ⊎ (n < q)) → before qs (raised i ns) ≡ (before qs ns || same_numbers (take j qs) (take j ns))
        → (ltb q n || (eqb q n && before qs (raised i ns))) ≡ Ahead q n (before qs ns) (same_numbers (take j qs) (take j ns))
    go (inl w) h = equal q n (before qs (raised i ns)) (before qs ns) (same_numbers (take j qs) (take j ns)) w h
    go (inr (inl w)) h = or_left (ltb q n) _ (lt-ltb q n w) ∙ sym (lower q n (before qs ns) (same_numbers (take j qs) (take j ns)) w)
    go (inr (inr w)) h =
        or_from (ltb q n) _ (le-ltb q n (omega arith)) (and_left (eqb q n) _ (ne_eqb q n (λ e. omega arith)))
        ∙ sym (higher q n (before qs ns) (same_numbers (take j qs) (take j ns)) w)

-- every rule has a choice
abbrev pub SomeChoice : List Rule → Type 0
SomeChoice rules = AllByRecursion (λ r. 1 ≤ length (choices r)) rules

pub selects_first : (rules : List Rule) → SomeChoice rules → selects rules (replicate (length rules) 0) ≡ true
selects_first [] s = refl
selects_first (r ∷ rules) s = and_from _ _ (lt-ltb 0 (length (choices r)) s.0) (selects_first rules s.1)

pub selects_raised : (rules : List Rule) (ns : List ℕ) (i : ℕ) → SomeChoice rules → selects rules ns ≡ true → i < length rules → get_or ns i 0 + 1 < width_at rules i
    → selects rules (raised i ns) ≡ true
selects_raised [] ns i s h l w = absurd (omega arith)
selects_raised (r ∷ rules) [] i s h l w = absurd (false≢true h)
selects_raised (r ∷ rules) (n ∷ ns) zero s h l w =
    let d = and_parts (ltb n (length (choices r))) (selects rules ns) h in
    and_from _ _ (lt-ltb _ _ (omega arith)) (subst (λ k. selects rules (replicate k 0) ≡ true) (sym (selects_length rules ns d.1)) (selects_first rules s.1))
selects_raised (r ∷ rules) (n ∷ ns) (suc i) s h l w =
    let d = and_parts (ltb n (length (choices r))) (selects rules ns) h in
    and_from _ _ d.0 (selects_raised rules ns i s.1 d.1 (le_of_suc-le-suc l) w)
