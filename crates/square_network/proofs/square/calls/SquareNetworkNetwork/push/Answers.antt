use Rattle.std.proofs.Common.{◌≡◌, pos, ◌+ℤ◌, ◌≤ℤ◌, refl, subst, inr, arith, rules}
use Rattle.std.proofs.lemmas.Int.{ints}
use Rattle.problem.specs.declared.day.Day.{Day}
use Rattle.problem.specs.declared.refusal.Refusal.TheVariants.{Clash}
use Rattle.network.specs.Calls.{Clashing, with_limit}
use Rattle.network.specs.Limits.{Lawful}
use Rattle.network.specs.Lists.{net_of}
use Rattle.network.proofs.Taken.{lawful_x, lawful_y, lawful_low, lawful_high}
use Rattle.square_network.specs.Distances.{at, Near}
use Rattle.square_network.specs.Model.{modelled}
use Rattle.square_network.specs.declared.distances.Distances.{Distances}
use Rattle.square_network.proofs.Pushes.{passes, taken, back_range, clashes}
use Rattle.square_network.proofs.Longer.{near}
use Rattle.square_network.proofs.Granting.{held_after, granted}
use Rattle.square_network.proofs.square.calls.SquareNetworkNetwork.push.Goals as goal

pub overflow_add-distance : goal.overflow_add-distance
overflow_add-distance c =
    let m = modelled c.args.self.now in
    let l = c.args.limit in
    let d = c.shortest.result.now in
    let lawful : Lawful m.day l = taken m l c.day.result c.len.result c.day.ensures c.len.ensures c.in_ok-check_limit.ensures in
    let within : Near m.day d.rows = subst (λ (day : Day). Near day d.rows) c.shortest.ensures.shortest.of_day (near d) in
    let back = within l.y l.x (lawful_y m.day l lawful) (lawful_x m.day l lawful) in
    let low = lawful_low m.day l lawful in
    let high = lawful_high m.day l lawful in
    omega (arith, ints)

pub returns-then-distance-limit-lt0 : goal.returns-then-distance-limit-lt0
returns-then-distance-limit-lt0 c =
    let m = modelled c.args.self.now in
    let l = c.args.limit in
    let lawful : Lawful m.day l = taken m l c.day.result c.len.result c.day.ensures c.len.ensures c.in_ok-check_limit.ensures in
    let back = back_range m.day m.limits c.shortest.result.now c.shortest.ensures.shortest l lawful in
    let clash : Clashing m l Clash =
    record {
      passes = passes m l c.day.result c.len.result c.day.ensures c.len.ensures c.in_ok-check_limit.ensures;
      clash = refl;
      unsolvable = clashes m.day m.limits c.shortest.result.now c.shortest.ensures.shortest l lawful (omega (arith, ints));
    } in
    (inr clash, refl)

pub lengthen-requires-clause-free : goal.lengthen-requires-clause-free
lengthen-requires-clause-free c e =
    let m = modelled c.args.self.now in
    let l = c.args.limit in
    let d = c.shortest.result.now in
    let lawful : Lawful m.day l = taken m l c.day.result c.len.result c.day.ensures c.len.ensures c.in_ok-check_limit.ensures in
    let back = back_range m.day m.limits d c.shortest.ensures.shortest l lawful in
    let free : pos 0 ≤ℤ (at d.rows l.y l.x +ℤ l.bound) = omega (arith, ints) in
    subst (λ (k : Distances). pos 0 ≤ℤ (at k.rows l.y l.x +ℤ l.bound)) (c.shortest.ensures.newest e) free

pub invariant_of-self-2-clause-held : goal.invariant_of-self-2-clause-held
invariant_of-self-2-clause-held c =
    let s = c.args.self.now in
    let m = modelled s in
    let l = c.args.limit in
    let d = c.shortest.result.now in
    let lawful : Lawful m.day l = taken m l c.day.result c.len.result c.day.ensures c.len.ensures c.in_ok-check_limit.ensures in
    let back = back_range m.day m.limits d c.shortest.ensures.shortest l lawful in
    let free : pos 0 ≤ℤ (at d.rows l.y l.x +ℤ l.bound) = omega (arith, ints) in
    let becomes : net_of c.push.new.self ≡ with_limit m l = search rules in
    held_after s l d c.shortest.ensures.shortest c.shortest.ensures.newest lawful free c.push.new.self becomes c.lengthen.new.tables.items c.lengthen.ensures.items

pub returns : goal.returns
returns c =
    let s = c.args.self.now in
    let m = modelled s in
    let l = c.args.limit in
    let d = c.shortest.result.now in
    let lawful : Lawful m.day l = taken m l c.day.result c.len.result c.day.ensures c.len.ensures c.in_ok-check_limit.ensures in
    let back = back_range m.day m.limits d c.shortest.ensures.shortest l lawful in
    let free : pos 0 ≤ℤ (at d.rows l.y l.x +ℤ l.bound) = omega (arith, ints) in
    let becomes : net_of c.push.new.self ≡ with_limit m l = search rules in
    granted s l d c.shortest.ensures.shortest c.shortest.ensures.newest lawful free c.push.new.self becomes c.lengthen.new.tables.items c.lengthen.ensures.items
    (passes m l c.day.result c.len.result c.day.ensures c.len.ensures c.in_ok-check_limit.ensures)
