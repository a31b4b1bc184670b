use Rattle.std.proofs.Common.{length}
use Rattle.oracle.proofs.cell.+replies_of.Given as goal

abbrev pub decreases-replies_of : goal.decreases-replies_of
decreases-replies_of l = length l.log.now
