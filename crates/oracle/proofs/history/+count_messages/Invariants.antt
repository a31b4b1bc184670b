use Rattle.std.proofs.Common.{length}
use Rattle.oracle.proofs.history.+count_messages.Given as goal

abbrev pub decreases-count_messages : goal.decreases-count_messages
decreases-count_messages l = length l.history.now
