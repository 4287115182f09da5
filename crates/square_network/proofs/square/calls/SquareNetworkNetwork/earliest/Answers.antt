use Rattle.std.proofs.Common.{◌≡◌, ℕ, ◌<◌, ◌≤◌, pos, ◌≤ℤ◌, subst, arith}
use Rattle.std.proofs.lemmas.Int.{ints}
use Rattle.std.specs.List.{AllByRecursion}
use Rattle.problem.specs.declared.day.Day.{Day}
use Rattle.network.specs.Limits.{Lawful}
use Rattle.network.specs.Nets.{Net, Earliest}
use Rattle.square_network.specs.Distances.{at, Near}
use Rattle.square_network.specs.Model.{modelled}
use Rattle.square_network.specs.Shortest.{Shortest}
use Rattle.square_network.specs.Answered.{soonest, of_day, starts, earliest}
use Rattle.square_network.specs.declared.distances.Distances.{Distances}
use Rattle.square_network.proofs.Longer.{near}
use Rattle.square_network.proofs.square.calls.SquareNetworkNetwork.earliest.Goals as goal

-- the event is one of the day, its minute is not after the horizon, and it does not come before event 0
told : (m : Net) → AllByRecursion (Lawful m.day) m.limits → (d : Distances) → Shortest m.day m.limits d → (i : ℕ) (day : Day) → day ≡ m.day
    → i < day.events → (i < m.day.events) × (soonest d.rows i ≤ m.day.horizon) × (at d.rows 0 i ≤ℤ pos 0)
told m lawful d short i day same within =
    let row = subst (λ (e : Day). i < e.events) same within in
    (row, (of_day m.day m.limits lawful d short).1 i row, starts m.day m.limits lawful d short i row)

pub overflow_sub-result : goal.overflow_sub-result
overflow_sub-result c =
    let m = modelled c.args.self.now in
    let d = c.shortest.result.now in
    let row = (told m c.args.self.now.limits.lawful d c.shortest.ensures.shortest c.args.event c.day.result c.day.ensures (omega arith)).0 in
    let within : Near m.day d.rows = subst (λ (day : Day). Near day d.rows) c.shortest.ensures.shortest.of_day (near d) in
    let to_start = within 0 c.args.event m.day.some row in
    let from_start = within c.args.event 0 row m.day.some in
    omega (arith, ints)

pub overflow_cast-result : goal.overflow_cast-result
overflow_cast-result c =
    let m = modelled c.args.self.now in
    let t = told m c.args.self.now.limits.lawful c.shortest.result.now c.shortest.ensures.shortest c.args.event c.day.result c.day.ensures (omega arith) in
    (omega (arith, ints, m.day.week), omega (arith, ints, m.day.week))

pub returns : goal.returns
returns c =
    let m = modelled c.args.self.now in
    let d = c.shortest.result.now in
    let t = told m c.args.self.now.limits.lawful d c.shortest.ensures.shortest c.args.event c.day.result c.day.ensures (omega arith) in
    let F : ℕ → Type 0 = Earliest m c.args.event in
    (t.0, subst F (omega (arith, ints, m.day.week)) (earliest m.day m.limits c.args.self.now.limits.lawful d c.shortest.ensures.shortest c.args.event t.0))
