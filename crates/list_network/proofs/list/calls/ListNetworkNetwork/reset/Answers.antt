use Rattle.std.proofs.Common.{[], set, replicate, arith}
use Rattle.std.proofs.lemmas.List.{get_or-set_same, length-set}
use Rattle.network.specs.Lists.{net_of}
use Rattle.list_network.specs.Smallest.{Stacked}
use Rattle.list_network.proofs.Stack.{fresh}
use Rattle.list_network.proofs.list.calls.ListNetworkNetwork.reset.Goals as goal

pub invariant_of-self-2 : goal.invariant_of-self-2
invariant_of-self-2 c =
    let s = c.args.self.now in
    let m = net_of c.reset.new.self in
    let stacked : Stacked m (set s.times 0 (replicate 32 0)) =
    fresh m _ c.in_ok-reset.ensures.cases.no_limits (get_or-set_same s.times 0 (replicate 32 0) [] (omega (arith, s.rows))) in
    record { rows = simp length-set s.rows; stacked = search stacked }
