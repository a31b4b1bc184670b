use Rattle.std.proofs.Common.{length}
use Rattle.oracle.proofs.log.+versions.Given as goal

abbrev pub decreases-versions : goal.decreases-versions
decreases-versions l = length l.log.now
