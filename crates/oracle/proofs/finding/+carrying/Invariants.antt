use Rattle.std.proofs.Common.{length}
use Rattle.oracle.proofs.finding.+carrying.Given as goal

abbrev pub decreases-carrying : goal.decreases-carrying
decreases-carrying l = length l.readings.now
