use Rattle.std.proofs.Common.{length}
use Rattle.oracle.proofs.history.+only_of.Given as goal

abbrev pub decreases-only_of : goal.decreases-only_of
decreases-only_of l = length l.messages.now
