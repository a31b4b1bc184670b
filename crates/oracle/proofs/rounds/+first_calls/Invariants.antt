use Rattle.std.proofs.Common.{length}
use Rattle.oracle.proofs.rounds.+first_calls.Given as goal

abbrev pub decreases-first_calls : goal.decreases-first_calls
decreases-first_calls l = length l.keys.now
