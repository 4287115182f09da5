-- Chains and rings of limits: evidence about all timetables at once.
--   horizon_limits   what the horizon itself says of an event
--   Stated           a limit is among some limits, or is one of the horizon's
--   Chain            each limit starts at the event where the one before it ended
--   total            the bounds added up
--   Ring             a chain that comes back to where it started, with a total below 0
use Rattle.std.specs.Prelude.{◌≡◌, ℕ, ◌<◌, ◌⊎◌, List, [], ◌∷◌, ℤ, pos, ◌+ℤ◌, ◌<ℤ◌}
use Rattle.std.specs.List.{ContainsAt, AllByRecursion}
use Rattle.problem.specs.declared.day.Day.{Day}
use Rattle.network.specs.declared.limit.Limit.{Limit}

-- event i comes at most at the horizon
abbrev pub at_horizon : Day → ℕ → Limit
at_horizon day i = record { x = i; y = 0; bound = pos day.horizon }

-- event i comes no earlier than event 0
abbrev pub after_start : ℕ → Limit
after_start i = record { x = 0; y = i; bound = pos 0 }

-- one of ls, or what the horizon says of an event of the day
abbrev pub Stated : Day → List Limit → Limit → Type 0
Stated day ls l = ContainsAt ls l ⊎ ((i : ℕ) × (i < day.events) × ((l ≡ at_horizon day i) ⊎ (l ≡ after_start i)))

-- a limit starts at its y and ends at its x; the first starts at a, the last ends at b
abbrev pub Chain : ℕ → ℕ → List Limit → Type 0
Chain a b [] = a ≡ b
Chain a b (l ∷ ls) = (l.y ≡ a) × Chain l.x b ls

-- the sum of the bounds
abbrev pub total : List Limit → ℤ
total [] = pos 0
total (l ∷ ls) = l.bound +ℤ total ls

-- limits of ls or of the horizon, from event a back to it, whose bounds add up to less than 0
pub record Ring (day : Day) (ls ring : List Limit) (a : ℕ) : Type 0 where
  pub stated : AllByRecursion (Stated day ls) ring
  pub closed : Chain a a ring
  pub negative : total ring <ℤ pos 0
