-- What is known of a limit that passed its checks.
use Rattle.std.proofs.Common.{◌≡◌, ℕ, ◌<◌, ltb, pos, neg_ℤ, ◌≤ℤ◌, None, arith}
use lib.Signed.{le_z}
use Rattle.std.proofs.lemmas.Int.{ints}
use Rattle.std.proofs.lemmas.Bool.{and_parts, ltb-true, not-true, eqb-false}
use Rattle.problem.specs.Bounds.{max_bound}
use Rattle.problem.specs.Checks.{first_refusal, two_events, in_range}
use Rattle.problem.specs.declared.day.Day.{Day}
use Rattle.problem.proofs.Fit.{held}
use Rattle.network.specs.Limits.{Lawful, limit_checks}
use Rattle.network.specs.declared.limit.Limit.{Limit}

module _ (day : Day) (count : ℕ) (l : Limit) (none : None ≡ first_refusal (limit_checks day count l)) where
  pub taken_lawful : Lawful day l
  taken_lawful =
      let p = held (two_events day l.x l.y) _ _ none in
      record { events = p.0; bound = (held (in_range l.bound) _ _ p.1).0 }

module _ (day : Day) (l : Limit) (h : Lawful day l) where
  -- the events of a lawful limit are two different ones of the day
  pub lawful_x : l.x < day.events
  lawful_x = ltb-true _ _ (and_parts (ltb l.x day.events) _ h.events).0

  pub lawful_y : l.y < day.events
  lawful_y = ltb-true _ _ (and_parts (ltb l.y day.events) _ (and_parts (ltb l.x day.events) _ h.events).1).0

  pub lawful_apart : l.x ≡ l.y → ⊥
  lawful_apart =
      let p = (and_parts (ltb l.y day.events) _ (and_parts (ltb l.x day.events) _ h.events).1).1 in
      eqb-false _ _ (not-true _ p)

  -- its bound is within a week either way
  pub lawful_low : neg_ℤ (pos max_bound) ≤ℤ l.bound
  lawful_low = let p = (and_parts (le_z (neg_ℤ (pos max_bound)) l.bound) _ h.bound).0 in grind (arith, ints)

  pub lawful_high : l.bound ≤ℤ pos max_bound
  lawful_high = let p = (and_parts (le_z (neg_ℤ (pos max_bound)) l.bound) _ h.bound).1 in grind (arith, ints)
