use Rattle.std.proofs.Common.{◌<◌, ℕ}
use Rattle.settle.specs.Verdict.{HasJournal}
use Rattle.settle.proofs.missing.check_journals.Given as goal

-- those so far are there
abbrev pub invariant-loop-partition : goal.invariant-loop-partition
invariant-loop-partition l = (k : ℕ) → k < l.partition → HasJournal l.closed l.tenant l.limits k
