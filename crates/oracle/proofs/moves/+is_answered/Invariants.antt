use Rattle.std.proofs.Common.{length}
use Rattle.oracle.proofs.moves.+is_answered.Given as goal

abbrev pub decreases-is_answered : goal.decreases-is_answered
decreases-is_answered l = length l.replies.now
