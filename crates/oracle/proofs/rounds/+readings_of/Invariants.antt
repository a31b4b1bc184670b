use Rattle.std.proofs.Common.{length}
use Rattle.oracle.proofs.rounds.+readings_of.Given as goal

abbrev pub decreases-readings_of : goal.decreases-readings_of
decreases-readings_of l = length l.some.now
