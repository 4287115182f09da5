-- The word of the rules given up, one rule after another.
use Rattle.std.proofs.Common.{◌≡◌, ℕ, zero, suc, ◌+◌, ◌*◌, ◌%◌, ◌^◌, ◌<◌, ◌≤◌, Bool, true, false, cond, List, [], ◌∷◌, length, get_or, take, map, not, is_some, Option, ◌++◌, ltb, eqb, sym, refl, inl, inr, ap, ◌∙◌, subst, le_of_suc-le-suc, mul_assoc, mul-zero, mul-one, add-one, arith}
use lib.Bits.{bit_or, or_shifted_r}
use Rattle.std.proofs.lemmas.Nat.{pow_pos, pow-add, one_shl}
use Rattle.std.proofs.lemmas.Bool.{and_parts, ltb-true, false≢true, eq-eqb, ne_eqb, cases_eq}
use Rattle.problem.specs.Rules.{Rule}
use Rattle.problem.specs.Timetables.{option, giving_up, choices}
use Rattle.problem.specs.declared.constraint.Disjunct.{Disjunct}
use Rattle.problem.specs.declared.constraint.Kind.{Kind}
use Rattle.problem.specs.declared.constraint.Kind.TheVariants.{Firm, Wish}
use Rattle.search.specs.Outcomes.{gives_up, given_bits}
use Rattle.search.specs.Selections.{no_choice, picked}
use Rattle.search.specs.Tests.{selects}
use Rattle.planner.specs.Choosing.{as_option}

-- `w | 1 << i` puts a bit above w
pub or_above : (i w : ℕ) → i < 32 → w < 2 ^ i → bit_or w ((1 * 2 ^ i) % 2 ^ 32) ≡ 2 ^ i + w
or_above i w h lt = ap (bit_or w) (one_shl i 32 h ∙ (omega arith)) ∙ or_shifted_r 1 i w lt ∙ (omega arith)

bit_small : (b : Bool) → cond b 1 0 ≤ 1
bit_small true = omega arith
bit_small false = omega arith

pow_double : (i : ℕ) → 2 ^ suc i ≡ 2 * 2 ^ i
pow_double i = let f : suc i ≡ 1 + i = omega arith in ap (λ k. 2 ^ k) f ∙ pow-add 2 1 i

eqb_suc : (m n : ℕ) → eqb (suc m) (suc n) ≡ eqb m n
eqb_suc m n = elim (cases_eq m n) [ inl e ↦ eq-eqb _ _ (ap suc e) ∙ sym (eq-eqb m n e) | inr d ↦ ne_eqb _ _ (λ e. d (omega arith)) ∙ sym (ne_eqb m n d) ]

-- a choice that takes no option gives its rule up
gives_up_at : (ds : List Disjunct) (k : Kind) (n : ℕ) → n < length (map option ds ++ giving_up k) → eqb n (length ds) ≡ not (is_some (as_option (get_or (map option ds ++ giving_up k) n no_choice)))
gives_up_at [] Firm n l = absurd (omega arith)
gives_up_at [] (Wish p) zero l = refl
gives_up_at [] (Wish p) (suc n) l = absurd (omega arith)
gives_up_at (d ∷ ds) k zero l = ne_eqb 0 (suc (length ds)) (λ e. omega arith)
gives_up_at (d ∷ ds) k (suc n) l = eqb_suc n (length ds) ∙ gives_up_at ds k n (le_of_suc-le-suc l)

-- 1 where the rule at a place is given up
abbrev bit : List Rule → List ℕ → ℕ → ℕ
bit rules ns i = cond (not (is_some (as_option (get_or (picked rules ns) i no_choice)))) 1 0

pub bits_none : (rules : List Rule) → given_bits rules [] ≡ 0
bits_none [] = refl
bits_none (r ∷ rules) = refl

-- one rule more
bits_suc : (rules : List Rule) (ns : List ℕ) (i : ℕ) → selects rules ns ≡ true → i < length ns
    → given_bits rules (take (suc i) ns) ≡ given_bits rules (take i ns) + 2 ^ i * bit rules ns i
bits_suc [] [] i h l = absurd (omega arith)
bits_suc [] (n ∷ ns) i h l = absurd (false≢true h)
bits_suc (r ∷ rules) [] i h l = absurd (omega arith)
bits_suc (r ∷ rules) (n ∷ ns) zero h l =
    let p = and_parts (ltb n (length (choices r))) _ h in
    let e : cond (gives_up r n) 1 0 ≡ bit (r ∷ rules) (n ∷ ns) 0 = ap (λ b. cond b 1 0) (gives_up_at r.options r.kind n (ltb-true _ _ p.0)) in
    let none = bits_none rules in
    omega arith
bits_suc (r ∷ rules) (n ∷ ns) (suc i) h l =
    let p = and_parts (ltb n (length (choices r))) _ h in
    let ih = bits_suc rules ns i p.1 (le_of_suc-le-suc l) in
    let b = bit rules ns i in
    let q : 2 ^ suc i * b ≡ 2 * (2 ^ i * b) = ap (λ x. x * b) (pow_double i) ∙ mul_assoc 2 (2 ^ i) b in
    omega arith

-- the bits of i rules are below 2 to the power i
bits_below : (rules : List Rule) (ns : List ℕ) (i : ℕ) → given_bits rules (take i ns) < 2 ^ i
bits_below [] ns i = pow_pos i
bits_below (r ∷ rules) ns zero = pow_pos 0
bits_below (r ∷ rules) [] (suc i) = pow_pos (suc i)
bits_below (r ∷ rules) (n ∷ ns) (suc i) =
    let ih = bits_below rules ns i in
    let b = bit_small (gives_up r n) in
    let p = pow_double i in
    omega arith

module _ (rules : List Rule) (ns : List ℕ) (i : ℕ) (placed : selects rules ns ≡ true) (l : i < length ns) (w : ℕ) (was : w ≡ given_bits rules (take i ns)) where
  more : given_bits rules (take (i + 1) ns) ≡ given_bits rules (take i ns) + 2 ^ i * bit rules ns i
  more = ap (λ k. given_bits rules (take k ns)) (add-one i) ∙ bits_suc rules ns i placed l

  -- rule i is given up
  pub bits_set : (o : Option Disjunct) → o ≡ as_option (get_or (picked rules ns) i no_choice) → is_some o ≡ false → i < 32 → (v : ℕ) → v ≡ bit_or w ((1 * 2 ^ i) % 2 ^ 32) → v ≡ given_bits rules (take (i + 1) ns)
  bits_set o read e few v new =
      let one : bit rules ns i ≡ 1 = ap (λ b. cond (not b) 1 0) (ap is_some (sym read) ∙ e) in
      let below : w < 2 ^ i = subst (λ x. x < 2 ^ i) (sym was) (bits_below rules ns i) in
      let p : 2 ^ i * bit rules ns i ≡ 2 ^ i = ap (λ x. 2 ^ i * x) one ∙ mul-one (2 ^ i) in
      new ∙ or_above i w few below ∙ (let q = more in omega arith)

  -- it is not
  pub bits_clear : (o : Option Disjunct) → o ≡ as_option (get_or (picked rules ns) i no_choice) → is_some o ≡ true → w ≡ given_bits rules (take (i + 1) ns)
  bits_clear o read e =
      let none : bit rules ns i ≡ 0 = ap (λ b. cond (not b) 1 0) (ap is_some (sym read) ∙ e) in
      let p : 2 ^ i * bit rules ns i ≡ 0 = ap (λ x. 2 ^ i * x) none ∙ mul-zero (2 ^ i) in
      let q = more in
      omega arith
