use Rattle.std.proofs.Common.{length}
use Rattle.oracle.proofs.history.+was_decided.Given as goal

abbrev pub decreases-was_decided : goal.decreases-was_decided
decreases-was_decided l = length l.history.now
