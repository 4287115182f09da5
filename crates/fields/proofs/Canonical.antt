-- Canonical decimal texts of at most nine digits.
use Rattle.std.proofs.Common.{◌≡◌, ℕ, ◌+◌, ◌-◌, ◌*◌, ◌^◌, ◌<◌, ◌≤◌, true, false, List, length, get_or, take, decimal, Result, sym, ap, ◌∙◌, subst, ⊎_elim, arith, MatchResult}
use Rattle.std.specs.Str.Parse.{AllDigits, digits_value}
use Rattle.std.specs.Int.{IsInRange}
use Rattle.std.specs.Char.{is_ascii_digit, digit_value as digitValue}
use Rattle.std.proofs.lemmas.Fmt.{decimal-digits_value, decimal_is_IsNumeral, decimal_nonempty, decimal_digit, first_decimal, length-decimal-le}
use Rattle.std.proofs.lemmas.Int.Digits.{digits_value_more, digits_more}
use Rattle.std.proofs.lemmas.List.{length-take, take_all}
use Rattle.std.proofs.lemmas.Str.Parse.{IsNumeralModel, numerals_by_value, tells_digits, digit_at, digits_value_short}
use Rattle.std.proofs.lemmas.Result.{MatchResult-weaker}
use Rattle.std.proofs.lemmas.Bool.{cases_eq}
use Rattle.std.proofs.lemmas.Bool.Decides.{nat_tests}
use Rattle.fields.specs.Numbers.{Short, Writes, Spells}

-- the words of the library for digits and their value
own : IsNumeralModel (AllDigits 10) (digits_value 10)
own = numerals_by_value (AllDigits 10) tells_digits

-- a byte that passes for a digit is one, and its value is its distance from '0'
digit_from_test : (c : ℕ) → is_ascii_digit c ≡ true → IsInRange 48 57 c
digit_from_test c h = (grind (arith, nat_tests), grind (arith, nat_tests))

digit_value : (c : ℕ) → IsInRange 48 57 c → digitValue c ≡ c - 48
digit_value c h = let low = h.0 in let high = h.1 in grind (arith, nat_tests)

-- a byte that is no digit stands in no text of digits
pub not_a_digit : (bs : List ℕ) (i : ℕ) → i < length bs → is_ascii_digit (get_or bs i 0) ≡ false → (v : ℕ) → Spells bs v → ⊥
not_a_digit bs i lt test v h = let d = digit_at bs i h.digits lt in let low = d.0 in let high = d.1 in grind (arith, nat_tests)

-- the digits before place i write a number that has room for one digit more
pub front_small : (bs : List ℕ) (i n : ℕ) → i < length bs → length bs ≤ 9 → Spells (take i bs) n → n < 10 ^ 8
front_small bs i n lt le h = omega (arith, digits_value_short own (take i bs) 8 h.digits (omega (arith, length-take i bs)))

-- one digit more was read
pub one_more : (bs : List ℕ) (i n x : ℕ) → i < length bs → is_ascii_digit (get_or bs i 0) ≡ true → x ≡ get_or bs i 0 - 48 → Spells (take i bs) n → Spells (take (i + 1) bs) (10 * n + x)
one_more bs i n x lt test e h =
    let d = digit_from_test (get_or bs i 0) test in
    let high = d.1 in
    let is = digit_value (get_or bs i 0) d in
    record {
      digits = digits_more 10 bs i lt h.digits (omega arith);
      number = omega (arith, digits_value_more 10 bs i lt);
    }

-- all digits were read
pub no_more : (bs : List ℕ) (i n : ℕ) → length bs ≤ i → Spells (take i bs) n → Spells bs n
no_more bs i n le h = subst (λ cs. Spells cs n) (take_all i bs le) h

-- a text that writes a number has at least one digit, at most nine, and no leading zero
pub not_empty : (bs : List ℕ) → length bs ≡ 0 → (v : ℕ) → Writes bs v → ⊥
not_empty bs none v h = omega (arith, ap length h.text, decimal_nonempty v (omega arith))

pub not_long : (bs : List ℕ) → 9 < length bs → (v : ℕ) → Writes bs v → ⊥
not_long bs long v h = omega (arith, ap length h.text, length-decimal-le 9 v (omega arith) h.short (omega arith))

pub no_leading_zero : (bs : List ℕ) → get_or bs 0 0 ≡ 48 → 1 < length bs → (v : ℕ) → Writes bs v → ⊥
no_leading_zero bs z two v h =
    ⊎_elim
    (λ e. omega (arith, ap length (h.text ∙ ap decimal e ∙ decimal_digit 0 (omega arith))))
    (λ ne. omega (arith, ap (λ l. get_or l 0 0) h.text, first_decimal v (omega arith) (omega arith)))
    (cases_eq v 0)

-- such a text writes the number that its digits spell
pub spells_written : (bs : List ℕ) (v : ℕ) → Writes bs v → Spells bs v
spells_written bs v h =
    let reads = decimal_is_IsNumeral v (omega arith) in
    subst (λ cs. Spells cs v) (sym h.text) (record { digits = reads.0.1; number = sym reads.1 })

writes_spelled : (bs : List ℕ) (v : ℕ) → 0 < length bs → length bs ≤ 9 → (get_or bs 0 0 ≡ 48 → length bs ≡ 1) → Spells bs v → Writes bs v
writes_spelled bs v some le lead h =
    let small : Short (digits_value 10 bs) = digits_value_short own bs 9 h.digits le in
    record { short = omega arith; text = sym (ap decimal h.number ∙ decimal-digits_value own bs h.digits some lead (omega arith)) }

pub writes_read : {E : Type 0} (bs : List ℕ) (r : Result ℕ E) → 0 < length bs → length bs ≤ 9 → (get_or bs 0 0 ≡ 48 → length bs ≡ 1) → MatchResult r (λ v. Spells bs v) (λ _. (v : ℕ) → Spells bs v → ⊥) → MatchResult r (λ v. Writes bs v) (λ _. (v : ℕ) → Writes bs v → ⊥)
writes_read bs r some le lead read = MatchResult-weaker r read (λ v h. writes_spelled bs v some le lead h) (λ e none v h. none v (spells_written bs v h))
