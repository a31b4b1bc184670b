use Rattle.std.proofs.Common.{length}
use Rattle.oracle.proofs.finding.+is_told.Given as goal

abbrev pub decreases-is_told : goal.decreases-is_told
decreases-is_told l = length l.replies.now
