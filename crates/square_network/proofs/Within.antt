-- How long a way by a limit can be.
use Rattle.std.proofs.Common.{◌≡◌, ℕ, ◌<◌, List, ℤ, pos, negsuc, ◌+ℤ◌, neg_ℤ, ◌≤ℤ◌, refl, ap, ◌∙◌, arith}
use Rattle.std.specs.Int.{int_min, int_wrap, w16}
use Rattle.std.specs.Int.RustNames.{FitsSigned}
use Rattle.std.proofs.lemmas.Int.{ints, int_wrap_fits}
use Rattle.problem.specs.Bounds.{max_events}
use Rattle.problem.specs.declared.day.Day.{Day}
use Rattle.network.specs.Limits.{Lawful}
use Rattle.network.specs.declared.limit.Limit.{Limit}
use Rattle.network.proofs.Taken.{lawful_x, lawful_low, lawful_high}
use Rattle.square_network.specs.Rows.{to, NearRow, Onward, ShortenedRow}
use Rattle.square_network.proofs.Shorter.{is_old}

-- from -m to m
abbrev pub Within : ℕ → ℤ → Type 0
Within m z = (neg_ℤ (pos m) ≤ℤ z) × (z ≤ℤ pos m)

in_16_bits : (z : ℤ) → Within 30240 z → FitsSigned w16 z
in_16_bits (pos n) range = let top = range.1 in record { sfits = omega (arith, ints) }
in_16_bits (negsuc n) range = let bottom = range.0 in record { sfits = omega (arith, ints) }

module _ (day : Day) (R B : List ℤ) (l : Limit) (near : NearRow day R) (beyond : NearRow day B) (lawful : Lawful day l) where
  -- up to the limit's other end
  pub to_limit_range : Within 20160 (to R l.x +ℤ l.bound)
  to_limit_range =
      let p = near l.x (lawful_x day l lawful) in
      let low = lawful_low day l lawful in
      let high = lawful_high day l lawful in
      (omega (arith, ints), omega (arith, ints))

  -- the whole way
  way_range : (j : ℕ) → j < day.events → Within 30240 ((to R l.x +ℤ l.bound) +ℤ to B j)
  way_range j column =
      let p = to_limit_range in
      let q = beyond j column in
      (omega (arith, ints), omega (arith, ints))

  -- the row stands where the limit does not shorten the way to its other end
  pub row_stands : Onward day R l.y B → to R l.y ≤ℤ (to R l.x +ℤ l.bound) → ShortenedRow day R B l R
  row_stands onward le j column =
      let way = onward j column in
      is_old (to R j) ((to R l.x +ℤ l.bound) +ℤ to B j) (to R j) (omega (arith, ints)) refl

  -- else it is written, and no sum of the day's columns wraps
  pub row_written : (R' : List ℤ) (z : ℤ) → z ≡ to R l.x +ℤ l.bound
      → ((j : ℕ) → j < max_events → to R' j ≡ int_min (to R j) (int_wrap w16 (z +ℤ to B j))) → ShortenedRow day R B l R'
  row_written R' z is each j column =
      each j (omega (arith, day.few)) ∙ ap (λ y. int_min (to R j) (int_wrap w16 (y +ℤ to B j))) is
      ∙ ap (int_min (to R j)) (int_wrap_fits w16 ((to R l.x +ℤ l.bound) +ℤ to B j) (in_16_bits ((to R l.x +ℤ l.bound) +ℤ to B j) (way_range j column)))
