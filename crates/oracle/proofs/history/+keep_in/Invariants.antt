use Rattle.std.proofs.Common.{length}
use Rattle.oracle.proofs.history.+keep_in.Given as goal

abbrev pub decreases-keep_in : goal.decreases-keep_in
decreases-keep_in l = length l.history.now
