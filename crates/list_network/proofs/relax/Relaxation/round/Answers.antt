use Rattle.std.proofs.Common.{List, ◌∷◌, [], get_or, subst, rules}
use Rattle.std.proofs.lemmas.Result.{err_from_is_err_and}
use Rattle.network.specs.Lists.{net_of}
use Rattle.network.specs.Limits.{nowhere}
use Rattle.network.specs.declared.limit.Limit.{Limit}
use Rattle.list_network.specs.Relaxing.{SameLimits, Acted, Lost}
use Rattle.list_network.proofs.Rounds.{as_before, goes_on, goes_lost, round_ends, lost_first, then_acted, then_lost}
use Rattle.list_network.proofs.relax.Relaxation.round.Goals as goal

pub returns-in_err-relax-clause-times : goal.returns-in_err-relax-clause-times
returns-in_err-relax-clause-times c =
    let s = c.args.self.now in
    let at = c.loop-limit in
    let limit = get_or c.as_slice-limit-items.result.now at.limit-index nowhere in
    let lost : Lost s.limits.now.day s.newest (limit ∷ []) at.self.times =
    as_before s at.self (λ list newest. Lost list.day newest (limit ∷ []) at.self.times) at.invariant.same c.in_err-relax.ensures.times in
    let F : List Limit → Type 0 = λ ls. Lost s.limits.now.day s.newest ls s.times in
    let before : Lost s.limits.now.day s.newest (net_of s.limits.now).limits s.times =
    subst F c.as_slice-limit-items.ensures (goes_lost _ _ _ _ _ _ _ at.invariant.so_far c.loop-limit-test.true lost) in
    let p = err_from_is_err_and c.from_residual.result c.from_residual.ensures.1 in
    rw p.1 (lost_first _ _ _ (s.newest ∷ []) _ before)

pub loop-limit-preserved : goal.loop-limit-preserved
loop-limit-preserved c =
    let s = c.args.self.now in
    let at = c.loop-limit in
    let effect = c.in_ok-relax.field-0 in
    let limit = get_or c.as_slice-limit-items.result.now at.limit-index nowhere in
    let acted : Acted s.limits.now.day s.newest (limit ∷ []) at.self.times effect c.relax.new.self.times =
    as_before s at.self (λ list newest. Acted list.day newest (limit ∷ []) at.self.times effect c.relax.new.self.times) at.invariant.same c.in_ok-relax.ensures.times in
    let same : SameLimits s c.relax.new.self = search rules in
    record { same = same; so_far = rw c.then-effect.ensures (goes_on _ _ _ _ _ _ _ at.invariant.so_far c.loop-limit-test.true _ _ acted) }

pub returns-in_err-relax-2-clause-times : goal.returns-in_err-relax-2-clause-times
returns-in_err-relax-2-clause-times c =
    let s = c.args.self.now in
    let at = c.loop-limit in
    let lost : Lost s.limits.now.day s.newest (s.newest ∷ []) at.self.times =
    as_before s at.self (λ list newest. Lost list.day newest (newest ∷ []) at.self.times) at.invariant.same c.in_err-relax-2.ensures.times in
    let F : List Limit → Type 0 = λ ls. Acted s.limits.now.day s.newest ls s.times at.effect at.self.times in
    let before : Acted s.limits.now.day s.newest (net_of s.limits.now).limits s.times at.effect at.self.times =
    subst F c.as_slice-limit-items.ensures (round_ends _ _ _ _ _ _ _ at.invariant.so_far c.loop-limit-test.false) in
    let p = err_from_is_err_and c.from_residual-in_err-relax-2.result c.from_residual-in_err-relax-2.ensures.1 in
    rw p.1 (then_lost _ _ _ (s.newest ∷ []) _ _ _ before lost)

pub returns-clause-times : goal.returns-clause-times
returns-clause-times c =
    let s = c.args.self.now in
    let at = c.loop-limit in
    let effect = c.in_ok-relax-2.field-0 in
    let acted : Acted s.limits.now.day s.newest (s.newest ∷ []) at.self.times effect c.relax-2.new.self.times =
    as_before s at.self (λ list newest. Acted list.day newest (newest ∷ []) at.self.times effect c.relax-2.new.self.times) at.invariant.same c.in_ok-relax-2.ensures.times in
    let F : List Limit → Type 0 = λ ls. Acted s.limits.now.day s.newest ls s.times at.effect at.self.times in
    let before : Acted s.limits.now.day s.newest (net_of s.limits.now).limits s.times at.effect at.self.times =
    subst F c.as_slice-limit-items.ensures (round_ends _ _ _ _ _ _ _ at.invariant.so_far c.loop-limit-test.false) in
    rw c.then.ensures (then_acted _ _ _ (s.newest ∷ []) _ _ _ _ _ before acted)
