use Rattle.std.proofs.Common.{length}
use Rattle.oracle.proofs.rounds.+seen_first.Given as goal

abbrev pub decreases-seen_first : goal.decreases-seen_first
decreases-seen_first l = length l.replies.now
