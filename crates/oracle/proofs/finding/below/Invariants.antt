use Rattle.std.proofs.Common.{◌≡◌}
use Rattle.plain_store.specs.Finding.{below}
use Rattle.oracle.proofs.finding.below.Given as goal

abbrev pub invariant-loop-number : goal.invariant-loop-number
invariant-loop-number l = l.numbers.items ≡ below l.number
