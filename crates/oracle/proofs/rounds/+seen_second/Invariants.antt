use Rattle.std.proofs.Common.{length}
use Rattle.oracle.proofs.rounds.+seen_second.Given as goal

abbrev pub decreases-seen_second : goal.decreases-seen_second
decreases-seen_second l = length l.replies.now
