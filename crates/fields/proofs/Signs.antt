-- Decimal texts with a minus sign, and without.
use Rattle.std.proofs.Common.{◌≡◌, ℕ, zero, suc, ◌-◌, ◌<◌, List, ◌∷◌, length, get_or, take, drop, ℤ, pos, negsuc, neg_ℤ, decimal, sym, refl, ap, ◌∙◌, subst, arith}
use Rattle.std.proofs.lemmas.Fmt.{decimal_nonempty, decimal_injective}
use Rattle.std.proofs.lemmas.Str.Parse.{digit_at}
use Rattle.std.proofs.lemmas.Slice.{first_rest}
use Rattle.fields.specs.Numbers.{Short, Writes, WritesSigned}
use Rattle.fields.proofs.Canonical.{spells_written}

-- what follows the first byte, as the checker has it
abbrev pub behind : List ℕ → List ℕ
behind bs = take (length bs - 1) (drop 1 bs)

plain : (bs : List ℕ) (n : ℕ) → WritesSigned bs (pos n) → Writes bs n
plain bs n h = record { short = h.short; text = h.text }

-- a text of digits does not begin with a minus sign
digits_first : (bs : List ℕ) (v : ℕ) → Writes bs v → get_or bs 0 0 ≡ 45 → ⊥
digits_first bs v h e =
    let some : 0 < length bs = omega (arith, ap length h.text, decimal_nonempty v (omega arith)) in
    omega (arith, digit_at bs 0 (spells_written bs v h).digits some)

module _ (bs : List ℕ) (some : 0 < length bs) (minus : get_or bs 0 0 ≡ 45) where
  minus_cons : bs ≡ 45 ∷ behind bs
  minus_cons = first_rest bs 0 some ∙ ap (λ x. x ∷ behind bs) minus

  -- no number behind the sign
  pub minus_none : ((v : ℕ) → Writes (behind bs) v → ⊥) → (z : ℤ) → WritesSigned bs z → ⊥
  minus_none none (pos n) h = digits_first bs n (plain bs n h) minus
  minus_none none (negsuc n) h = none (suc n) (record { short = h.short; text = (let p = minus_cons in let q = h.text in cc) })

  -- 0 behind the sign
  pub minus_zero : Writes (behind bs) 0 → (z : ℤ) → WritesSigned bs z → ⊥
  minus_zero w (pos n) h = digits_first bs n (plain bs n h) minus
  minus_zero w (negsuc n) h =
      let short : Short (suc n) = h.short in
      let same : decimal (suc n) ≡ decimal 0 = (let p = minus_cons in let q = h.text in let r = w.text in cc) in
      omega (arith, decimal_injective (suc n) 0 (omega arith) (omega arith) same)

  -- a number above 0 behind the sign
  pub minus_some : (n : ℕ) → (n ≡ 0 → ⊥) → Writes (behind bs) n → (z : ℤ) → z ≡ neg_ℤ (pos n) → WritesSigned bs z
  minus_some zero ne w z e = absurd (ne refl)
  minus_some (suc n) ne w z e =
      subst (WritesSigned bs) (sym e) (record { short = w.short; text = minus_cons ∙ ap (λ l. 45 ∷ l) w.text })
