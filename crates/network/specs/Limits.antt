-- Limits, and when a network takes one.
--   max_limits     the most limits of a network
--   Lawful         a limit on two different events of the day, with a bound in range
--   limit_checks   the checks of a limit: its events, its bound, then that there is room
--   Keeps          a timetable keeps a limit
--   nowhere        what stands where a list of limits has none
use Rattle.std.specs.Prelude.{◌≡◌, ℕ, true, List, [], ◌∷◌, pos, ◌≤ℤ◌, nat_lt}
use Rattle.problem.specs.Checks.{Check, check, in_range, two_events}
use Rattle.problem.specs.Timetables.{gap}
use Rattle.problem.specs.declared.day.Day.{Day}
use Rattle.problem.specs.declared.refusal.Refusal.TheVariants as refusal
use Rattle.network.specs.declared.limit.Limit.{Limit}

-- two for each rule
abbrev pub max_limits : ℕ
max_limits = 64

-- its events are two different ones of the day, and its bound is in range
pub record Lawful (day : Day) (l : Limit) : Type 0 where
  pub events : two_events day l.x l.y ≡ true
  pub bound : in_range l.bound ≡ true

-- the events, the bound, then that fewer than max_limits limits stand
abbrev pub limit_checks : Day → ℕ → Limit → List Check
limit_checks day count l =
    check (two_events day l.x l.y) refusal.EventPair
    ∷ (check (in_range l.bound) refusal.BoundRange ∷ (check (nat_lt count max_limits) refusal.LimitCount ∷ []))

-- T(x) - T(y) is at most the bound
abbrev pub Keeps : (ℕ → ℕ) → Limit → Type 0
Keeps T l = gap T l.x l.y ≤ℤ l.bound

-- no limit
abbrev pub nowhere : Limit
nowhere = record { x = 0; y = 0; bound = pos 0 }
