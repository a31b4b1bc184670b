use Rattle.std.proofs.Common.{length}
use Rattle.oracle.proofs.finding.+total_found.Given as goal

abbrev pub decreases-total_found : goal.decreases-total_found
decreases-total_found l = length l.replies.now
