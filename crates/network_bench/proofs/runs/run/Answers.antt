use Rattle.std.proofs.Common.{[], ◌++◌, arith}
use Rattle.network_bench.specs.Scripts.{Ran, records, repeated}
use Rattle.network_bench.proofs.Running.{not_yet, once_more, in_words}
use Rattle.network_bench.proofs.runs.run.Goals as goal

pub loop-turn-init : goal.loop-turn-init
loop-turn-init g c m rs ran =
    not_yet m rs c.as_chunks-2.result.0.now c.run_once-checksum.result (g.N.Network.net c.run_once-checksum.new.network) ran

pub loop-turn-preserved : goal.loop-turn-preserved
loop-turn-preserved g c m rs ran =
    let again = c.as_chunks-2.result.0.now in
    let run = c.run_once-checksum-in-loop-turn in
    once_more m rs again run.result (g.N.Network.net run.new.network) c.loop-turn._turn
    (run.ensures m (rs ++ repeated c.loop-turn._turn again) (c.loop-turn.invariant m rs ran))

pub returns : goal.returns
returns g c =
    let m = g.N.Network.net c.args.network.now in
    let first = c.as_chunks.result.0.now in
    in_words m first c.as_chunks-2.result.0.now c.loop-turn.checksum (g.N.Network.net c.loop-turn.network) c.loop-turn._turn c.args.repeats
    (records c.args.setup.now) (records c.args.script.now) (omega arith) c.as_chunks.ensures.front c.as_chunks-2.ensures.front
    (c.loop-turn.invariant m first (c.run_once-checksum.ensures m [] Ran.none))
