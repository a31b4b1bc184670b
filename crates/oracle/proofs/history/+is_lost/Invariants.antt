use Rattle.std.proofs.Common.{length}
use Rattle.oracle.proofs.history.+is_lost.Given as goal

abbrev pub decreases-is_lost : goal.decreases-is_lost
decreases-is_lost l = length l.history.now
