use Rattle.std.proofs.Common.{◌≡◌, inl, inr, subst, arith}
use Rattle.std.proofs.lemmas.Bool.{cases_lt}
use Rattle.settle.specs.Input.{input_of}
use Rattle.settle.specs.Fronts.{IsUnsentAt}
use Rattle.settle.proofs.NextSteps.{none_past}
use Rattle.settle.proofs.Verdicts.{stuck, unsent}
use Rattle.settle.proofs.progress.Progress.why_stuck.Goals as goal

pub loop-partition-preserved : goal.loop-partition-preserved
loop-partition-preserved c trace stands k within at =
    let input = input_of c.args.closed.now c.args.tenant c.args.self.now.replay.limits in
    let p = c.loop-partition.partition in
    elim (cases_lt k p) [
      | inl h ↦ c.loop-partition.invariant trace stands k h at
      | inr h ↦ let same : k ≡ p = omega (arith, h, within) in c.is_unsent.ensures.left trace stands c.if-is_unsent.false (subst (IsUnsentAt input trace) same at)
    ]

pub returns-then-is_unsent : goal.returns-then-is_unsent
returns-then-is_unsent c trace stands none left =
    let input = input_of c.args.closed.now c.args.tenant c.args.self.now.replay.limits in
    inr (inr (inr (inl (unsent input trace c.args.self.now c.loop-partition.partition stands none (c.is_unsent.ensures.over trace stands c.if-is_unsent.true)))))

pub returns : goal.returns
returns c trace stands none left =
    let input = input_of c.args.closed.now c.args.tenant c.args.self.now.replay.limits in
    stuck input trace c.args.self.now stands none left
    (λ partition at. none_past input trace partition (λ k within. c.loop-partition.invariant trace stands k (omega (arith, within, c.loop-partition-test.false))) at)
