use Rattle.std.proofs.Common.{length}
use Rattle.oracle.proofs.history.+tickets.Given as goal

abbrev pub decreases-tickets : goal.decreases-tickets
decreases-tickets l = length l.history.now
