use Rattle.std.proofs.Common.{length}
use Rattle.oracle.proofs.log.+is_live.Given as goal

abbrev pub decreases-is_live : goal.decreases-is_live
decreases-is_live l = length l.log.now
