use Rattle.server_status.specs.Reported.{AreRefusalRows}
use Rattle.server_status.proofs.reading.read_refusals.Given as goal

-- those of the numbers so far
abbrev pub invariant-loop-number : goal.invariant-loop-number
invariant-loop-number l = AreRefusalRows 0 l.number l.refusals.items
