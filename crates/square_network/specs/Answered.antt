-- What the shortest distances over a list of limits answer.
use Rattle.std.proofs.Common.{ap, subst, arith}
use Rattle.std.proofs.lemmas.Int.{ints}
use Rattle.std.proofs.lemmas.List.{take_all}
use Rattle.std.proofs.lemmas.List.Elements.{All-from_recursion, recursion_from_All}
use Rattle.std.specs.Prelude.{◌≡◌, ℕ, ◌+◌, ◌<◌, ◌≤◌, List, [], ◌∷◌, length, vec_items, slice_index_or, unsigned_abs, refl}
use Rattle.std.specs.List.{All, AllByRecursion}
use Rattle.problem.specs.Timetables.{OfDay}
use Rattle.problem.specs.declared.day.Day.{Day}
use Rattle.network.specs.Limits.{Lawful, Keeps}
use Rattle.network.specs.Nets.{Solves, Earliest, Sound}
use Rattle.network.specs.declared.limit.Limit.{Limit}
use Rattle.network.proofs.Lists.{few_limits}
use Rattle.network.proofs.Taken.{lawful_x, lawful_y}
use Rattle.square_network.specs.Distances.{Square, at, Zeros, Triangle, Starts, Ends}
use Rattle.square_network.specs.Model.{modelled}
use Rattle.square_network.specs.Shortest.{Shortest, Held}
use Rattle.square_network.specs.declared.distances.Distances.{Distances}
use Rattle.square_network.specs.declared.square.SquareNetwork.{SquareNetwork}

-- the minute of each event that is as early as its distance allows
abbrev pub soonest : Square → ℕ → ℕ
soonest D i = unsigned_abs (at D 0 i)

module _ (day : Day) (ls : List Limit) (lawful : AllByRecursion (Lawful day) ls) (d : Distances) (s : Shortest day ls d) where
  zeros : Zeros day d.rows
  zeros = subst (λ e. Zeros e d.rows) s.of_day d.same

  triangle : Triangle day d.rows
  triangle = subst (λ e. Triangle e d.rows) s.of_day d.triangle

  pub starts : Starts day d.rows
  starts = subst (λ e. Starts e d.rows) s.of_day d.first

  ends : Ends day d.rows
  ends = subst (λ e. Ends e d.rows) s.of_day d.last

  pub of_day : OfDay day (soonest d.rows)
  of_day = (ap unsigned_abs (zeros 0 day.some), in_day)
    where
      in_day : (i : ℕ) → i < day.events → soonest d.rows i ≤ day.horizon
      in_day i row =
          let round = triangle 0 i 0 day.some row day.some in
          let e = zeros 0 day.some in
          let a = ends i row in
          let b = starts i row in
          omega (arith, ints)

  keeps : All (Keeps (soonest d.rows)) ls
  keeps k l lt =
      let limit = slice_index_or ls k l in
      let good = All-from_recursion (Lawful day) ls lawful k l lt in
      let row = lawful_x day limit good in
      let column = lawful_y day limit good in
      let way = triangle 0 limit.x limit.y day.some row column in
      let b = s.tight k l lt in
      let p = starts limit.x row in
      let q = starts limit.y column in
      omega (arith, ints)

  pub solves : Solves (record { day = day; limits = ls }) (soonest d.rows)
  solves = (of_day, recursion_from_All (Keeps (soonest d.rows)) ls keeps)

  pub earliest : (i : ℕ) → i < day.events → Earliest (record { day = day; limits = ls }) i (soonest d.rows i)
  earliest i row = record { reached = (soonest d.rows, solves, refl); lowest = lowest }
    where
      lowest : (T : ℕ → ℕ) → Solves (record { day = day; limits = ls }) T → soonest d.rows i ≤ T i
      lowest T kept =
          let b = s.sound T kept.0 (All-from_recursion (Keeps T) ls kept.1) 0 i day.some row in
          let z = kept.0.0 in
          let p = starts i row in
          omega (arith, ints)

-- the last table has the shortest distances over all limits
pub held_last : (day : Day) (ls : List Limit) (ds : List Distances) → Held day ls ds → (k : ℕ) → k ≡ length ls → (d : Distances) → Shortest day ls (slice_index_or ds k d)
held_last day ls ds held k all d = subst (λ ks. Shortest day ks (slice_index_or ds k d)) (take_all k ls (omega arith)) (held k (omega arith) d)

-- some timetable is that of the last table
solvable : (day : Day) (ls : List Limit) → AllByRecursion (Lawful day) ls → (ds : List Distances) → length ds ≡ length ls + 1 → Held day ls ds
    → (T : ℕ → ℕ) × Solves (record { day = day; limits = ls }) T
solvable day ls lawful [] each held = absurd (omega arith)
solvable day ls lawful (d ∷ ds) each held =
    let last = slice_index_or (d ∷ ds) (length ls) d in
    (soonest last.rows, solves day ls lawful last (held_last day ls (d ∷ ds) held (length ls) refl d))

pub sound : (s : SquareNetwork) → Sound (modelled s)
sound s = record {
  lawful = s.limits.lawful;
  few = few_limits s.limits;
  solvable = solvable s.limits.day (modelled s).limits s.limits.lawful (vec_items s.tables) (omega arith) s.held;
}
