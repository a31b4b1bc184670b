use Rattle.std.proofs.Common.{length}
use Rattle.oracle.proofs.replies.+count_droppable.Given as goal

abbrev pub decreases-count_droppable : goal.decreases-count_droppable
decreases-count_droppable l = length l.versions.now
