use Rattle.std.proofs.Common.{length}
use Rattle.oracle.proofs.log.+find_version.Given as goal

abbrev pub decreases-find_version : goal.decreases-find_version
decreases-find_version l = length l.versions.now
