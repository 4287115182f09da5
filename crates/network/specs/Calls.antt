-- What each call on a network answers, and what it leaves.
--   with_limit   a network with one limit more
--   Emptied      the network after a granted reset
--   Pushed       a push
--   Popped       a pop
--   Asked        a question for the earliest minute
use Rattle.std.specs.Prelude.{◌≡◌, ℕ, ◌<◌, ◌≤◌, ◌⊎◌, [], ◌∷◌, ◌++◌, length, Some, None, Ok, Err, Option, Result}
use Rattle.problem.specs.Checks.{first_refusal}
use Rattle.problem.specs.declared.refusal.Refusal.{Refusal}
use Rattle.problem.specs.declared.refusal.Refusal.TheVariants as refusal
use Rattle.network.specs.Limits.{limit_checks}
use Rattle.network.specs.Nets.{Net, Solves, Unsolvable, Earliest}
use Rattle.network.specs.declared.limit.Limit.{Limit}

-- the day so made, and no limits
pub record Emptied (events horizon : ℕ) (m : Net) : Type 0 where
  pub events_are : m.day.events ≡ events
  pub horizon_is : m.day.horizon ≡ horizon
  pub no_limits : m.limits ≡ []

-- one limit more, the newest
abbrev pub with_limit : Net → Limit → Net
with_limit m l = record { day = m.day; limits = m.limits ++ (l ∷ []) }

-- what the checks of the limit say
abbrev pub refusal_before : Net → Limit → Option Refusal
refusal_before m l = first_refusal (limit_checks m.day (length m.limits) l)

-- the limit passes the checks, and can be met with the others
pub record Granted (m : Net) (l : Limit) (m' : Net) : Type 0 where
  pub passes : refusal_before m l ≡ None
  pub becomes : m' ≡ with_limit m l
  pub solvable : (T : ℕ → ℕ) × Solves m' T

-- the limit passes the checks, and no timetable meets it with the others
pub record Clashing (m : Net) (l : Limit) (e : Refusal) : Type 0 where
  pub passes : refusal_before m l ≡ None
  pub clash : e ≡ refusal.Clash
  pub unsolvable : Unsolvable (with_limit m l)

-- from m, with the answer, to m'
abbrev pub Pushed : Net → Limit → Result Unit Refusal → Net → Type 0
Pushed m l (Ok _) m' = Granted m l m'
Pushed m l (Err e) m' = ((refusal_before m l ≡ Some e) ⊎ Clashing m l e) × (m' ≡ m)

-- the newest limit is off, or there was none
abbrev pub Popped : Net → Result Unit Refusal → Net → Type 0
Popped m (Ok _) m' = (l : Limit) × (m ≡ with_limit m' l)
Popped m (Err e) m' = (e ≡ refusal.NoLimit) × (m.limits ≡ []) × (m' ≡ m)

-- the event's earliest minute, or the day has no such event
abbrev pub Asked : Net → ℕ → Result ℕ Refusal → Type 0
Asked m i (Ok t) = (i < m.day.events) × Earliest m i t
Asked m i (Err e) = (e ≡ refusal.NoSuchEvent) × (m.day.events ≤ i)
