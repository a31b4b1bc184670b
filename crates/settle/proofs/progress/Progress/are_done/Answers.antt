use Rattle.std.proofs.Common.{◌≡◌, sym, subst, inl, inr, arith}
use Rattle.std.proofs.lemmas.Bool.{cases_lt}
use Rattle.std.proofs.lemmas.Option.{slice_get_within}
use Rattle.settle.specs.Input.{input_of, events_of_partition}
use Rattle.settle.specs.Trace.{OfJournal, times}
use Rattle.settle.specs.Standing.{IsDone}
use Rattle.settle.proofs.NextSteps.{past}
use Rattle.settle.proofs.progress.Progress.are_done.Goals as goal

pub returns-in-Some-clause-left : goal.returns-in-Some-clause-left
returns-in-Some-clause-left c trace stands is whole =
    let input = input_of c.args.closed.now c.args.tenant c.args.self.now.replay.limits in
    let p = c.loop-partition.partition in
    let within = slice_get_within (events_of_partition input p) (times (OfJournal p) trace) c.in-Some._event (c.in-Some.ensures trace stands.noted.replies) in
    let done = whole.journals p in
    omega (arith, within, done)

pub loop-partition-preserved : goal.loop-partition-preserved
loop-partition-preserved c trace stands k within =
    let input = input_of c.args.closed.now c.args.tenant c.args.self.now.replay.limits in
    let p = c.loop-partition.partition in
    elim (cases_lt k p) [
      | inl h ↦ c.loop-partition.invariant trace stands k h
      | inr h ↦ let same : k ≡ p = omega (arith, h, within) in subst (IsDone input trace) (sym same) (past (events_of_partition input p) (times (OfJournal p) trace) (c.in_default.ensures trace stands.noted.replies))
    ]
