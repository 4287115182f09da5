-- What a network means.
--   Net          a day, and limits on its events
--   Solves       a timetable of the day keeps every limit
--   Unsolvable   no timetable does
--   Earliest     the smallest minute that any such timetable gives to an event
--   Sound        what holds of every network
use Rattle.std.specs.Prelude.{◌≡◌, ℕ, ◌≤◌, List, length}
use Rattle.std.specs.List.{AllByRecursion}
use Rattle.problem.specs.Timetables.{OfDay}
use Rattle.problem.specs.declared.day.Day.{Day}
use Rattle.network.specs.Limits.{max_limits, Lawful, Keeps}
use Rattle.network.specs.declared.limit.Limit.{Limit}

-- a day, and a list of limits, the newest last
pub record Net : Type 0 where
  pub day : Day
  pub limits : List Limit

-- T is a timetable of the day and keeps every limit
abbrev pub Solves : Net → (ℕ → ℕ) → Type 0
Solves m T = OfDay m.day T × AllByRecursion (Keeps T) m.limits

-- no timetable of the day keeps every limit
abbrev pub Unsolvable : Net → Type 0
Unsolvable m = (T : ℕ → ℕ) → Solves m T → ⊥

-- some timetable that solves m puts event i at minute t, and none puts it earlier
pub record Earliest (m : Net) (i t : ℕ) : Type 0 where
  pub reached : (T : ℕ → ℕ) × Solves m T × (T i ≡ t)
  pub lowest : (T : ℕ → ℕ) → Solves m T → t ≤ T i

-- every limit is lawful, there are not too many, and some timetable solves the network
pub record Sound (m : Net) : Type 0 where
  pub lawful : AllByRecursion (Lawful m.day) m.limits
  pub few : length m.limits ≤ max_limits
  pub solvable : (T : ℕ → ℕ) × Solves m T
