use Rattle.std.proofs.Common.{length}
use Rattle.oracle.proofs.finding.+keys_in.Given as goal

abbrev pub decreases-keys_in : goal.decreases-keys_in
decreases-keys_in l = length l.replies.now
