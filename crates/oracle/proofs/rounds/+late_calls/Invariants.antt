use Rattle.std.proofs.Common.{length}
use Rattle.oracle.proofs.rounds.+late_calls.Given as goal

abbrev pub decreases-late_calls : goal.decreases-late_calls
decreases-late_calls l = length l.some.now
