use Rattle.std.proofs.Common.{length}
use Rattle.oracle.proofs.marks.+has_number.Given as goal

abbrev pub decreases-has_number : goal.decreases-has_number
decreases-has_number l = length l.numbers.now
