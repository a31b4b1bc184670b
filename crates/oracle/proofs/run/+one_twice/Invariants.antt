use Rattle.std.proofs.Common.{length}
use Rattle.oracle.proofs.run.+one_twice.Given as goal

abbrev pub decreases-one_twice : goal.decreases-one_twice
decreases-one_twice l = length l.keys.now
