use Rattle.std.proofs.Common.{length}
use Rattle.oracle.proofs.finding.+all_told.Given as goal

abbrev pub decreases-all_told : goal.decreases-all_told
decreases-all_told l = length l.partitions.now
