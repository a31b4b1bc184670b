use Rattle.std.proofs.Common.{length}
use Rattle.oracle.proofs.history.+counter.Given as goal

abbrev pub decreases-counter : goal.decreases-counter
decreases-counter l = length l.history.now
