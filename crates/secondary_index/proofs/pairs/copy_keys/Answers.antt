use Rattle.std.proofs.Common.{arith}
use Rattle.secondary_index.proofs.Telling.{copied_more}
use Rattle.secondary_index.proofs.pairs.copy_keys.Goals as goal

pub loop-index-preserved : goal.loop-index-preserved
loop-index-preserved c =
    let was = c.loop-index.invariant in (
      copied_more c.args.pairs.now.items c.args.first c.loop-index.index c.get.result.now c.loop-index.keys (omega arith) c.get.ensures (omega arith) was.0,
      omega arith,
    )
