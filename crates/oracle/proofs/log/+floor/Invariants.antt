use Rattle.std.proofs.Common.{length}
use Rattle.oracle.proofs.log.+floor.Given as goal

abbrev pub decreases-floor : goal.decreases-floor
decreases-floor l = length l.log.now
