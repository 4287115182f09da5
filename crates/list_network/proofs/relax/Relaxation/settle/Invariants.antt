use Rattle.list_network.specs.Relaxing.{SameLimits, all_limits, Follows, slack}
use Rattle.list_network.proofs.relax.Relaxation.settle.Given as goal

abbrev pub invariant-loop : goal.invariant-loop
invariant-loop l =
    record {
      same : SameLimits l.initial.self l.self;
      follows : Follows l.initial.self.limits.now.day l.initial.self.newest (all_limits l.initial.self) l.initial.self.times l.self.times;
    }

abbrev pub decreases-loop : goal.decreases-loop
decreases-loop l = slack l.self.limits.now.day.horizon l.self.times
