use Rattle.std.proofs.Common.{length}
use Rattle.oracle.proofs.log.+has_version.Given as goal

abbrev pub decreases-has_version : goal.decreases-has_version
decreases-has_version l = length l.versions.now
