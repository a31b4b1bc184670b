use Rattle.std.proofs.Common.{length}
use Rattle.server_verdicts.specs.Rows.{HavePlaces}
use Rattle.server_verdicts.proofs.epochs.checker.unchecked.Given as goal

abbrev pub invariant-loop-row : goal.invariant-loop-row
invariant-loop-row l = HavePlaces l.known.items l._row (length l.limits)
