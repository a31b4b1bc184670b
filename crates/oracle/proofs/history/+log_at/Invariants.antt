use Rattle.std.proofs.Common.{length}
use Rattle.oracle.proofs.history.+log_at.Given as goal

abbrev pub decreases-log_at : goal.decreases-log_at
decreases-log_at l = length l.history.now
