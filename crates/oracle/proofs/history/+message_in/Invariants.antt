use Rattle.std.proofs.Common.{length}
use Rattle.oracle.proofs.history.+message_in.Given as goal

abbrev pub decreases-message_in : goal.decreases-message_in
decreases-message_in l = length l.history.now
