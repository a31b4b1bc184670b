use Rattle.std.proofs.Common.{length}
use Rattle.prepare_commit.proofs.place_hints.mark_of.Given as goal

abbrev pub decreases-loop-word : goal.decreases-loop-word
decreases-loop-word l = length l.left
