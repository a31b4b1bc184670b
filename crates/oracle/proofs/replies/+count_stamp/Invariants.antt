use Rattle.std.proofs.Common.{length}
use Rattle.oracle.proofs.replies.+count_stamp.Given as goal

abbrev pub decreases-count_stamp : goal.decreases-count_stamp
decreases-count_stamp l = length l.versions.now
