use Rattle.std.proofs.Common.{length}
use Rattle.oracle.proofs.history.+taken.Given as goal

abbrev pub decreases-taken : goal.decreases-taken
decreases-taken l = length l.history.now
