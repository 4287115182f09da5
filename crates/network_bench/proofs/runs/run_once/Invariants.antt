use Rattle.std.proofs.Common.{ℕ, List, ◌++◌, take}
use Rattle.network.specs.Nets.{Net}
use Rattle.network_bench.specs.Scripts.{Ran}
use Rattle.network_bench.proofs.runs.run_once.Given as goal

abbrev pub invariant-loop-bytes : goal.invariant-loop-bytes
invariant-loop-bytes g l =
    (m : Net) (rs : List (List ℕ)) → Ran m rs l.before (g.N.Network.net l.initial.network)
    → Ran m (rs ++ take l.bytes-index l.script) l.checksum (g.N.Network.net l.network)
