use Rattle.std.proofs.Common.{length}
use Rattle.oracle.proofs.history.+session.Given as goal

abbrev pub decreases-session : goal.decreases-session
decreases-session l = length l.history.now
