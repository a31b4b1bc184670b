use Rattle.std.proofs.Common.{◌≡◌, inl, inr, sym, subst, arith}
use Rattle.std.proofs.lemmas.Bool.{cases_lt}
use Rattle.settle.specs.Verdict.{HasJournal}
use Rattle.settle.proofs.missing.check_journals.Goals as goal

pub loop-partition-preserved : goal.loop-partition-preserved
loop-partition-preserved c k within = elim (cases_lt k c.loop-partition.partition) [
  | inl h ↦ c.loop-partition.invariant k h
  | inr h ↦ let same : k ≡ c.loop-partition.partition = omega (arith, h, within) in subst (HasJournal c.args.closed.now c.args.tenant c.args.limits.now) (sym same) c.in_default.ensures
]
