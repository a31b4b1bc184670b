use Rattle.std.proofs.Common.{length}
use Rattle.oracle.proofs.log.+keys_of.Given as goal

abbrev pub decreases-keys_of : goal.decreases-keys_of
decreases-keys_of l = length l.versions.now
