use Rattle.std.proofs.Common.{length}
use Rattle.oracle.proofs.rounds.+was_shown.Given as goal

abbrev pub decreases-was_shown : goal.decreases-was_shown
decreases-was_shown l = length l.replies.now
