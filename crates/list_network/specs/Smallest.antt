-- The smallest minutes that meet a network.
--   beginning   a network with the first limits alone
--   Smallest    minutes meet a network, and none that do are earlier
--   Stacked     the smallest minutes of each beginning of a network
use Rattle.std.specs.Prelude.{◌≡◌, ℕ, ◌≤◌, List, [], length, take, slice_index_or}
use Rattle.problem.specs.Bounds.{max_events}
use Rattle.problem.specs.Timetables.{minute}
use Rattle.network.specs.Nets.{Net, Solves}

-- the first k limits of m
abbrev pub beginning : ℕ → Net → Net
beginning k m = record { day = m.day; limits = take k m.limits }

-- ts, a minute for each event of the largest day, solve m, and what solves m has no earlier minute
pub record Smallest (m : Net) (ts : List ℕ) : Type 0 where
  pub size : length ts ≡ max_events
  pub solves : Solves m (minute ts)
  pub lowest : (T : ℕ → ℕ) → Solves m T → (i : ℕ) → minute ts i ≤ T i

-- tss have, at k, the smallest minutes of the first k limits of m
abbrev pub Stacked : Net → List (List ℕ) → Type 0
Stacked m tss = (k : ℕ) → k ≤ length m.limits → Smallest (beginning k m) (slice_index_or tss k [])
