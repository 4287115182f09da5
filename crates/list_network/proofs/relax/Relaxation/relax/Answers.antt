use Rattle.std.proofs.Common.{◌≡◌, ◌<◌, length, pos, ◌<ℤ◌, refl, inl, inr, arith}
use Rattle.std.proofs.lemmas.Int.{ints}
use Rattle.problem.specs.Timetables.{minute}
use Rattle.network.specs.Limits.{Keeps}
use Rattle.network.proofs.Taken.{lawful_y}
use Rattle.list_network.specs.Relaxing.{least}
use Rattle.list_network.proofs.Relaxing.{small, raised, stuck}
use Rattle.list_network.proofs.relax.Relaxation.relax.Goals as goal
use Rattle.list_network.proofs.relax.Relaxation.relax.Goals.{then-limit-eq0-via-then-limit-eq0, then-limit-eq0-via-else-limit-eq0+then-limit-self, then-limit-eq0-via-else-limit-eq0+else-limit-self+then-least-horizon}

pub returns-then-least-from-clause-times : goal.returns-then-least-from-clause-times
returns-then-least-from-clause-times c =
    let s = c.args.self.now in
    let limit = c.args.limit in
    let near = small s.limits.now.day limit s.times c.requires s.timetable in
    let keeps : Keeps (minute s.times) limit = omega (arith, ints) in
    record { same = refl; keeps = (keeps, tt) }

pub returns-then-limit-eq0-clause-times : goal.returns-then-limit-eq0-clause-times
returns-then-limit-eq0-clause-times c =
    let s = c.args.self.now in
    let day = s.limits.now.day in
    let limit = c.args.limit in
    let until : c.horizon-horizon.result ≡ day.horizon = cc in
    let near = small day limit s.times c.requires s.timetable in
    stuck day s.newest limit s.times c.requires (least limit s.times) (omega (arith, ints)) refl
    (elim c.then-limit-eq0.branch [
      | then-limit-eq0-via-then-limit-eq0 w ↦ inl (omega arith)
      | then-limit-eq0-via-else-limit-eq0+then-limit-self w ↦ inr (inl (omega arith))
      | then-limit-eq0-via-else-limit-eq0+else-limit-self+then-least-horizon w ↦
          let late : pos day.horizon <ℤ least limit s.times = omega (arith, ints, day.week) in
          inr (inr late)
    ])

pub returns-clause-times : goal.returns-clause-times
returns-clause-times c =
    let s = c.args.self.now in
    let day = s.limits.now.day in
    let limit = c.args.limit in
    let until : c.horizon-horizon.result ≡ day.horizon = cc in
    let near = small day limit s.times c.requires s.timetable in
    let inside : limit.y < length s.times = omega (arith, lawful_y day limit c.requires, day.few, s.size) in
    raised day s.newest limit s.times c.requires _ inside (omega (arith, ints)) (omega (arith, ints, day.week)) (omega (arith, ints))
