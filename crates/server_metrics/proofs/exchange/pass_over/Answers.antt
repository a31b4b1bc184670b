use Rattle.std.proofs.Common.{◌++◌, take}
use Rattle.std.proofs.KnownBytes.{Consumes-trans}
use Rattle.server_metrics.proofs.exchange.pass_over.Goals as goal

pub loop-preserved : goal.loop-preserved
loop-preserved g c =
    let before = c.loop.invariant.0 in
    (before ++ take c.in-Ok.taken c.read.new.buf, Consumes-trans _ _ _ before (take c.in-Ok.taken c.read.new.buf) c.loop.invariant.1 c.in-Ok.ensures.bytes.0)
