-- Tables of distances between all pairs of a day's events, a list of rows.
--   Square      a table: its rows
--   at          the distance from one event to another
--   through     the distance by way of a limit
--   shorter     the shorter of the two
--   opening     the distance while there are no limits
--   Zeros       no event comes after itself
--   Triangle    no way by a third event is shorter
--   Starts      no event comes before event 0
--   Ends        no event comes after the horizon
--   Near        every distance is within a week either way
--   Opened      the distances while there are no limits
--   Shortened   the distances once a limit is put on
use Rattle.std.specs.Prelude.{◌≡◌, ℕ, ◌<◌, cond, ◌||◌, List, [], ℤ, pos, ◌+ℤ◌, neg_ℤ, ◌≤ℤ◌, ◌==◌, slice_index_or}
use Rattle.std.specs.Int.{int_min}
use Rattle.problem.specs.Bounds.{max_horizon}
use Rattle.problem.specs.declared.day.Day.{Day}
use Rattle.network.specs.declared.limit.Limit.{Limit}

-- its rows, each the distances from one event
abbrev pub Square : Type 0
Square = List (List ℤ)

-- what stands at row i and column j: at most so many minutes does event i come after event j
abbrev pub at : Square → ℕ → ℕ → ℤ
at D i j = slice_index_or (slice_index_or D i []) j (pos 0)

-- from i to j by way of the limit
abbrev pub through : Square → Limit → ℕ → ℕ → ℤ
through D l i j = (at D i l.x +ℤ l.bound) +ℤ at D l.y j

-- the shorter of the distance and the one by way of the limit
abbrev pub shorter : Square → Limit → ℕ → ℕ → ℤ
shorter D l i j = int_min (at D i j) (through D l i j)

-- no event comes before event 0, nor after the horizon
abbrev pub opening : Day → ℕ → ℕ → ℤ
opening day i j = cond (i == 0 || i == j) (pos 0) (pos day.horizon)

-- from each event to itself it is 0
abbrev pub Zeros : Day → Square → Type 0
Zeros day D = (i : ℕ) → i < day.events → at D i i ≡ pos 0

-- no way by a third event is shorter
abbrev pub Triangle : Day → Square → Type 0
Triangle day D = (i j m : ℕ) → i < day.events → j < day.events → m < day.events → at D i m ≤ℤ (at D i j +ℤ at D j m)

-- from event 0 to each event it is at most 0
abbrev pub Starts : Day → Square → Type 0
Starts day D = (i : ℕ) → i < day.events → at D 0 i ≤ℤ pos 0

-- from each event to event 0 it is at most the horizon
abbrev pub Ends : Day → Square → Type 0
Ends day D = (i : ℕ) → i < day.events → at D i 0 ≤ℤ pos day.horizon

-- no distance is longer than the longest horizon
abbrev pub Near : Day → Square → Type 0
Near day D = (i j : ℕ) → i < day.events → j < day.events → (neg_ℤ (pos max_horizon) ≤ℤ at D i j) × (at D i j ≤ℤ pos max_horizon)

-- the distances that a day begins with
abbrev pub Opened : Day → Square → Type 0
Opened day D = (i j : ℕ) → i < day.events → j < day.events → at D i j ≡ opening day i j

-- D' has the distances once the limit is put on D
abbrev pub Shortened : Day → Square → Limit → Square → Type 0
Shortened day D l D' = (i j : ℕ) → i < day.events → j < day.events → at D' i j ≡ shorter D l i j
