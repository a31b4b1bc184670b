use Rattle.std.proofs.Common.{length}
use Rattle.oracle.proofs.rounds.+needed.Given as goal

abbrev pub decreases-needed : goal.decreases-needed
decreases-needed l = length l.keys.now
