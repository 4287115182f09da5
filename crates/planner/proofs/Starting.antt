-- A network that was given a day, with nothing loaded.
use Rattle.std.proofs.Common.{◌≡◌, ℕ, ◌≤◌, [], Ok, Result, ◌∙◌, subst, MatchResult}
use native.Mathlib.Bridge.{le_prop}
use Rattle.problem.specs.Bounds.{max_events, max_horizon}
use Rattle.problem.specs.declared.day.Day.{Day}
use Rattle.problem.specs.declared.refusal.Refusal.{Refusal}
use Rattle.network.specs.Calls.{Emptied}
use Rattle.network.specs.Nets.{Net}

-- days of equal numbers are equal
pub same_day : (d e : Day) → d.events ≡ e.events → d.horizon ≡ e.horizon → d ≡ e
same_day d e p q =
    subst (λ n. (s : 1 ≤ n) (f : n ≤ max_events) → d ≡ record { events = n; horizon = d.horizon; some = s; few = f; week = d.week }) p
    (λ s f i. record { events = d.events; horizon = d.horizon; some = le_prop d.some s i; few = le_prop d.few f i; week = d.week }) e.some e.few
    ∙ subst (λ h. (w : h ≤ max_horizon) → ◌≡◌ {A = Day} (record { events = e.events; horizon = d.horizon; some = e.some; few = e.few; week = d.week }) (record { events = e.events; horizon = h; some = e.some; few = e.few; week = w })) q
    (λ w i. record { events = e.events; horizon = d.horizon; some = e.some; few = e.few; week = le_prop d.week w i }) e.week

-- a network that took a day has no limits
pub reset_empty : (day : Day) (events horizon : ℕ) (m m' : Net) (r : Result Unit Refusal) (u : Unit) → r ≡ Ok u → events ≡ day.events → horizon ≡ day.horizon
    → MatchResult r (λ _. Emptied events horizon m') (λ _. m' ≡ m) → m' ≡ record { day = day; limits = [] }
reset_empty day events horizon m m' r u taken e h cases =
    let empty : Emptied events horizon m' = subst (λ x. MatchResult x (λ _. Emptied events horizon m') (λ _. m' ≡ m)) taken cases in
    λ i. record { day = same_day m'.day day (empty.events_are ∙ e) (empty.horizon_is ∙ h) i; limits = empty.no_limits i }
