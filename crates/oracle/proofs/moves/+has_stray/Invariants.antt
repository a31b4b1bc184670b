use Rattle.std.proofs.Common.{length}
use Rattle.oracle.proofs.moves.+has_stray.Given as goal

abbrev pub decreases-has_stray : goal.decreases-has_stray
decreases-has_stray l = length l.keys.now
