use Rattle.std.proofs.Common.{length}
use Rattle.oracle.proofs.rounds.+all_shown_late.Given as goal

abbrev pub decreases-all_shown_late : goal.decreases-all_shown_late
decreases-all_shown_late l = length l.some.now
