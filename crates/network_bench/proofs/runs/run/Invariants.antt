use Rattle.std.proofs.Common.{ℕ, List, ◌++◌}
use Rattle.network.specs.Nets.{Net}
use Rattle.network_bench.specs.Scripts.{Ran, repeated}
use Rattle.network_bench.proofs.runs.run.Given as goal

abbrev pub invariant-loop-turn : goal.invariant-loop-turn
invariant-loop-turn g l =
    (m : Net) (rs : List (List ℕ)) → Ran m rs l.initial.checksum (g.N.Network.net l.initial.network)
    → Ran m (rs ++ repeated l._turn l.again) l.checksum (g.N.Network.net l.network)
