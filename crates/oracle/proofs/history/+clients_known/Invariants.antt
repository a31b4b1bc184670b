use Rattle.std.proofs.Common.{length}
use Rattle.oracle.proofs.history.+clients_known.Given as goal

abbrev pub decreases-clients_known : goal.decreases-clients_known
decreases-clients_known l = length l.history.now
