use Rattle.std.proofs.Common.{◌++◌, ◌∷◌, [], rules}
use Rattle.std.proofs.lemmas.Result.{err_from_is_err_and}
use Rattle.network.specs.Lists.{net_of}
use Rattle.problem.specs.Timetables.{OfDay, minute}
use Rattle.list_network.specs.Relaxing.{SameLimits, all_limits, Acted, Lost, Settling}
use Rattle.list_network.proofs.Rounds.{as_before, rests, comes_to_rest, rises, gets_lost}
use Rattle.list_network.proofs.relax.Relaxation.settle.Goals as goal

pub returns-in_err-round : goal.returns-in_err-round
returns-in_err-round c =
    let s = c.args.self.now in
    let at = c.loop in
    let lost : Lost s.limits.now.day s.newest (all_limits s) at.self.times =
    as_before s at.self (λ list newest. Lost list.day newest ((net_of list).limits ++ (newest ∷ [])) at.self.times) at.invariant.same c.in_err-round.ensures.times in
    let p = err_from_is_err_and c.from_residual.result c.from_residual.ensures.1 in
    rw p.1 (gets_lost _ _ _ _ _ at.invariant.follows lost)

pub loop-preserved : goal.loop-preserved
loop-preserved c =
    let s = c.args.self.now in
    let at = c.loop in
    let same : SameLimits s c.round.new.self = search rules in
    let acted : Acted s.limits.now.day s.newest (all_limits s) at.self.times c.in_ok-round.field-0 c.round.new.self.times =
    as_before s at.self (λ list newest. Acted list.day newest ((net_of list).limits ++ (newest ∷ [])) at.self.times c.in_ok-round.field-0 c.round.new.self.times)
    at.invariant.same c.in_ok-round.ensures.times in
    record { same = same; follows = rises _ _ _ _ _ at.invariant.follows _ _ acted c.in-Raised.is }

pub returns : goal.returns
returns c =
    let s = c.args.self.now in
    let at = c.loop in
    let acted : Acted s.limits.now.day s.newest (all_limits s) at.self.times c.in_ok-round.field-0 c.round.new.self.times =
    as_before s at.self (λ list newest. Acted list.day newest ((net_of list).limits ++ (newest ∷ [])) at.self.times c.in_ok-round.field-0 c.round.new.self.times)
    at.invariant.same c.in_ok-round.ensures.times in
    let timetable : OfDay s.limits.now.day (minute at.self.times) =
    as_before s at.self (λ list newest. OfDay list.day (minute at.self.times)) at.invariant.same at.self.timetable in
    let settling : Settling s.limits.now.day s.newest (all_limits s) s.times c.round.new.self.times =
    comes_to_rest _ _ _ _ _ at.invariant.follows _ _ acted (rests _ c.in_default.not-Raised) at.self.size timetable in
    search settling
