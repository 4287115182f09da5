use Rattle.std.proofs.Common.{arith}
use Rattle.network_bench.proofs.Running.{ran_more, ran_all}
use Rattle.network_bench.proofs.runs.run_once.Goals as goal

pub loop-bytes-preserved : goal.loop-bytes-preserved
loop-bytes-preserved g c m rs ran =
    rw c.from-in-loop-bytes.ensures
    (ran_more m rs c.args.script.now c.loop-bytes.bytes-index c.loop-bytes.checksum (g.N.Network.net c.loop-bytes.network) (omega arith)
    c.from.result c.from.ensures (c.loop-bytes.invariant m rs ran) _ _ c.answer-number.ensures)

pub returns : goal.returns
returns g c m rs ran =
    ran_all m rs c.args.script.now c.loop-bytes.bytes-index c.loop-bytes.checksum (g.N.Network.net c.loop-bytes.network) (omega arith)
    (c.loop-bytes.invariant m rs ran)
