use Rattle.std.proofs.Common.{length}
use Rattle.oracle.proofs.history.+exchanges_of.Given as goal

abbrev pub decreases-exchanges_of : goal.decreases-exchanges_of
decreases-exchanges_of l = length l.sent.now
