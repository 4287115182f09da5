use Rattle.std.proofs.Common.{Ok, take}
use Rattle.list_network.specs.Relaxing.{SameLimits, Relaxed}
use Rattle.list_network.proofs.relax.Relaxation.round.Given as goal

abbrev pub invariant-loop-limit : goal.invariant-loop-limit
invariant-loop-limit l =
    record {
      same : SameLimits l.initial.self l.self;
      so_far : Relaxed l.initial.self (take l.limit-index l.limit-items) (Ok l.effect) l.self.times;
    }
