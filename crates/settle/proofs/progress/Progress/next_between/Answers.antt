use Rattle.settle.specs.Trace.{OfTranscript}
use Rattle.std.proofs.Common.{arith}
use Rattle.settle.specs.Input.{input_of}
use Rattle.settle.proofs.Choices.{none_more_between, none_chosen}
use Rattle.settle.proofs.progress.Progress.next_between.Goals as goal

pub loop-place-preserved : goal.loop-place-preserved
loop-place-preserved c trace stands =
    let input = input_of c.args.closed.now c.args.tenant c.args.self.now.replay.limits in
    none_more_between input trace c.args.first c.loop-place.place (c.loop-place.invariant trace stands)
    (none_chosen input trace (OfTranscript c.loop-place.place) c.in_ok-next.field-0 c.in_default.is (c.in_ok-next.ensures.choice trace stands))

pub returns : goal.returns
returns c = record { choice = λ trace stands k from within act may. c.loop-place.invariant trace stands k from (omega (arith, within, c.loop-place-test.false)) act may; within = tt }
