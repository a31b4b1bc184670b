use Rattle.std.proofs.Common.{length}
use Rattle.oracle.proofs.marks.+once_each.Given as goal

abbrev pub decreases-once_each : goal.decreases-once_each
decreases-once_each l = length l.numbers.now
