-- Minutes that limits raise, and the timetables that the minutes stay below.
--   slack       how far minutes are from the horizon, altogether
--   least       the least minute that a limit leaves to its y
--   Old         a limit that minutes kept before the newest came, or the newest itself
--   Candidate   a timetable of the day that keeps limits, of which all but the newest are old
--   Forced      a timetable puts an event at least as late as a minute that the newest limit led to
--   Below       minutes, raised on account of the newest limit, are below a timetable
--   Follows     minutes that were below a candidate are below it still
--   Lost        minutes are below no candidate
--   Resting     minutes stay, and keep limits
--   Rising      minutes are raised
--   Acted       minutes stay or are raised, as the effect says
--   SameLimits  a relaxation keeps its limits
--   all_limits  the limits of a relaxation, the newest last
--   Relaxed     what relaxing limits answers, and what it leaves
--   Settling    minutes have come to rest
--   Settled     what settling minutes answers, and what it leaves
use Rattle.std.specs.Prelude.{◌≡◌, ℕ, ◌+◌, ◌-◌, ◌<◌, ◌≤◌, ◌⊎◌, List, [], ◌∷◌, ◌++◌, length, ℤ, pos, ◌-ℤ◌, ◌≤ℤ◌, Ok, Err, Result}
use Rattle.std.specs.List.{AllByRecursion}
use Rattle.problem.specs.Bounds.{max_events}
use Rattle.problem.specs.Timetables.{OfDay, minute, gap}
use Rattle.problem.specs.declared.day.Day.{Day}
use Rattle.network.specs.Limits.{Keeps}
use Rattle.network.specs.declared.limit.Limit.{Limit}
use Rattle.network.specs.Lists.{net_of}
use Rattle.list_network.specs.declared.relax.Clash.{Clash}
use Rattle.list_network.specs.declared.relax.Effect.{Effect}
use Rattle.list_network.specs.declared.relax.Effect.TheVariants.{Rest, Raised}
use Rattle.list_network.specs.declared.relax.Relaxation.{Relaxation}

-- the minutes between each of ts and h, added up
abbrev pub slack : ℕ → List ℕ → ℕ
slack h [] = 0
slack h (t ∷ ts) = (h - t) + slack h ts

-- the least that l leaves to its y where its x comes at its minute in ts
abbrev pub least : Limit → List ℕ → ℤ
least l ts = pos (minute ts l.x) -ℤ l.bound

-- us keep l, or l is the newest limit
abbrev pub Old : List ℕ → Limit → Limit → Type 0
Old us newest l = Keeps (minute us) l ⊎ (l ≡ newest)

-- T is a timetable of the day and keeps the newest limit and each of ls; each of ls is old or the newest
pub record Candidate (day : Day) (newest : Limit) (ls : List Limit) (us : List ℕ) (T : ℕ → ℕ) : Type 0 where
  pub timetable : OfDay day T
  pub keeps_newest : Keeps T newest
  pub keeps : AllByRecursion (Keeps T) ls
  pub old : AllByRecursion (Old us newest) ls

-- in T event i comes at least as long after the newest limit's y as z after what that limit left to its y at us
abbrev pub Forced : Limit → List ℕ → (ℕ → ℕ) → ℕ → ℤ → Type 0
Forced newest us T i z = (z -ℤ least newest us) ≤ℤ gap T i newest.y

-- ts are raised from us and nowhere later than T, where each event that was raised is forced to its minute in ts
abbrev pub Below : Limit → List ℕ → (ℕ → ℕ) → List ℕ → Type 0
Below newest us T ts =
    (i : ℕ) → (minute us i ≤ minute ts i) × (minute ts i ≤ T i)
    × (minute us i < minute ts i → Forced newest us T i (pos (minute ts i)))

-- each candidate that ts are below, ts' are below too
abbrev pub Follows : Day → Limit → List Limit → List ℕ → List ℕ → Type 0
Follows day newest ls ts ts' =
    (us : List ℕ) (T : ℕ → ℕ) → Candidate day newest ls us T → Below newest us T ts → Below newest us T ts'

-- there is no candidate that ts are below
abbrev pub Lost : Day → Limit → List Limit → List ℕ → Type 0
Lost day newest ls ts = (us : List ℕ) (T : ℕ → ℕ) → Candidate day newest ls us T → Below newest us T ts → ⊥

-- ts stay, and keep each of ls
pub record Resting (ls : List Limit) (ts ts' : List ℕ) : Type 0 where
  pub same : ts' ≡ ts
  pub keeps : AllByRecursion (Keeps (minute ts)) ls

-- ts' are nearer to the horizon than ts, and below each candidate that ts were below
pub record Rising (day : Day) (newest : Limit) (ls : List Limit) (ts ts' : List ℕ) : Type 0 where
  pub nearer : slack day.horizon ts' < slack day.horizon ts
  pub follows : Follows day newest ls ts ts'

-- the limits and the newest of them stay
pub record SameLimits (r r' : Relaxation) : Type 0 where
  pub limits : r'.limits ≡ r.limits
  pub newest : r'.newest ≡ r.newest

-- from ts, with the effect of the limits, to ts'
abbrev pub Acted : Day → Limit → List Limit → List ℕ → Effect → List ℕ → Type 0
Acted day newest ls ts Rest ts' = Resting ls ts ts'
Acted day newest ls ts Raised ts' = Rising day newest ls ts ts'

-- the limits of r, and the newest
abbrev pub all_limits : Relaxation → List Limit
all_limits r = (net_of r.limits.now).limits ++ (r.newest ∷ [])

-- from the minutes of r by the limits ls to ts'
abbrev pub Relaxed : Relaxation → List Limit → Result Effect Clash → List ℕ → Type 0
Relaxed r ls (Ok effect) ts' = Acted r.limits.now.day r.newest ls r.times effect ts'
Relaxed r ls (Err _) ts' = Lost r.limits.now.day r.newest ls r.times

-- ts' are a timetable of the day that keeps each of ls, and below each candidate that ts were below
pub record Settling (day : Day) (newest : Limit) (ls : List Limit) (ts ts' : List ℕ) : Type 0 where
  pub size : length ts' ≡ max_events
  pub timetable : OfDay day (minute ts')
  pub keeps : AllByRecursion (Keeps (minute ts')) ls
  pub follows : Follows day newest ls ts ts'

-- from the minutes of r by all its limits to ts'
abbrev pub Settled : Relaxation → Result Unit Clash → List ℕ → Type 0
Settled r (Ok _) ts' = Settling r.limits.now.day r.newest (all_limits r) r.times ts'
Settled r (Err _) ts' = Lost r.limits.now.day r.newest (all_limits r) r.times
