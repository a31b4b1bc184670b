use Rattle.settle.specs.Trace.{OfJournal}
use Rattle.std.proofs.Common.{arith}
use Rattle.settle.specs.Input.{input_of}
use Rattle.settle.proofs.Choices.{none_more}
use Rattle.settle.proofs.progress.Progress.next_of_journals.Goals as goal

pub loop-partition-preserved : goal.loop-partition-preserved
loop-partition-preserved c trace stands =
    let input = input_of c.args.closed.now c.args.tenant c.args.self.now.replay.limits in
    none_more input trace OfJournal c.loop-partition.partition (c.loop-partition.invariant trace stands) (c.in_default.ensures.choice trace stands)

pub returns : goal.returns
returns c = record { choice = λ trace stands k within act may. c.loop-partition.invariant trace stands k (omega (arith, within, c.loop-partition-test.false)) act may; within = tt }
