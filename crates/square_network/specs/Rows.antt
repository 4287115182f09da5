-- Rows of a table of distances, each the distances from one event.
--   to             the distance to an event
--   NearRow        every distance is within a week either way
--   Onward         none is longer than by way of a third event, whose row is the other
--   ShortenedRow   the distances once a limit is put on
use Rattle.std.specs.Prelude.{◌≡◌, ℕ, ◌<◌, List, ℤ, pos, ◌+ℤ◌, neg_ℤ, ◌≤ℤ◌, slice_index_or}
use Rattle.std.specs.Int.{int_min}
use Rattle.problem.specs.Bounds.{max_horizon}
use Rattle.problem.specs.declared.day.Day.{Day}
use Rattle.network.specs.declared.limit.Limit.{Limit}

-- what stands at column j
abbrev pub to : List ℤ → ℕ → ℤ
to R j = slice_index_or R j (pos 0)

-- no distance is longer than the longest horizon
abbrev pub NearRow : Day → List ℤ → Type 0
NearRow day R = (j : ℕ) → j < day.events → (neg_ℤ (pos max_horizon) ≤ℤ to R j) × (to R j ≤ℤ pos max_horizon)

-- no way by event y, whose row is B, is shorter
abbrev pub Onward : Day → List ℤ → ℕ → List ℤ → Type 0
Onward day R y B = (j : ℕ) → j < day.events → to R j ≤ℤ (to R y +ℤ to B j)

-- R' has the distances once the limit is put on R, where B is the row of the limit's y
abbrev pub ShortenedRow : Day → List ℤ → List ℤ → Limit → List ℤ → Type 0
ShortenedRow day R B l R' = (j : ℕ) → j < day.events → to R' j ≡ int_min (to R j) ((to R l.x +ℤ l.bound) +ℤ to B j)
