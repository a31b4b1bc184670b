use Rattle.std.proofs.Common.{length}
use Rattle.oracle.proofs.marks.+discarded.Given as goal

abbrev pub decreases-discarded : goal.decreases-discarded
decreases-discarded l = length l.log.now
