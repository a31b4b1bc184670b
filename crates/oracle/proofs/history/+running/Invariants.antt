use Rattle.std.proofs.Common.{length}
use Rattle.oracle.proofs.history.+running.Given as goal

abbrev pub decreases-running : goal.decreases-running
decreases-running l = length l.history.now
