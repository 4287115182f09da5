-- The shortest distances over a list of limits, and a table of them for each number of limits.
--   Bounds       a distance is as short as a limit asks
--   Shortest     a table has the shortest distances over a list of limits
--   Held         table k has them over the first k limits, for each k up to the count of limits
--   Lengthened   a list of tables has one more: the last of them with a limit put on
use Rattle.std.specs.Prelude.{◌≡◌, ℕ, ◌-◌, ◌<◌, ◌≤◌, List, [], ◌∷◌, ◌++◌, length, take, ◌≤ℤ◌}
use Rattle.std.specs.List.{All, HoldsAt}
use Rattle.problem.specs.Timetables.{OfDay, gap}
use Rattle.problem.specs.declared.day.Day.{Day}
use Rattle.network.specs.Limits.{Keeps}
use Rattle.network.specs.declared.limit.Limit.{Limit}
use Rattle.square_network.specs.Distances.{Square, at, Shortened}
use Rattle.square_network.specs.declared.distances.Distances.{Distances}

-- from x to y it is at most the bound
abbrev pub Bounds : Square → Limit → Type 0
Bounds D l = at D l.x l.y ≤ℤ l.bound

-- its distances are those of the day, as short as each limit asks, and every timetable that keeps the limits keeps them
pub record Shortest (day : Day) (ls : List Limit) (d : Distances) : Type 0 where
  pub of_day : d.day ≡ day
  pub tight : All (Bounds d.rows) ls
  pub sound : (T : ℕ → ℕ) → OfDay day T → All (Keeps T) ls → (i j : ℕ) → i < day.events → j < day.events → gap T i j ≤ℤ at d.rows i j

-- for each k up to the count of limits table k has the shortest distances over the first k
abbrev pub Held : Day → List Limit → List Distances → Type 0
Held day ls ds = (k : ℕ) → k ≤ length ls → HoldsAt (Shortest day (take k ls)) ds k

-- ds' has behind ds one table more: the distances once the limit is put on the last of ds
pub record Lengthened (l : Limit) (ds ds' : List Distances) : Type 0 where
  pub next : Distances
  pub behind : ds' ≡ ds ++ next ∷ []
  pub of_day : HoldsAt (λ d. next.day ≡ d.day) ds (length ds - 1)
  pub shortened : HoldsAt (λ d. Shortened d.day d.rows l next.rows) ds (length ds - 1)
