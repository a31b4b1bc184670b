use Rattle.std.proofs.Common.{length}
use Rattle.oracle.proofs.rounds.+round_one_complete.Given as goal

abbrev pub decreases-round_one_complete : goal.decreases-round_one_complete
decreases-round_one_complete l = length l.keys.now
