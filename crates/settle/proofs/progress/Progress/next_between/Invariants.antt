use Rattle.settle.specs.Input.{input_of}
use Rattle.settle.specs.Trace.{Trace}
use Rattle.settle.specs.Standing.{HasTakenSteps, NoneBetween}
use Rattle.settle.proofs.progress.Progress.next_between.Given as goal

-- none so far gives a step that may come next
abbrev pub invariant-loop-place : goal.invariant-loop-place
invariant-loop-place l = (trace : Trace) → HasTakenSteps (input_of l.closed l.tenant l.self.replay.limits) trace l.self → NoneBetween (input_of l.closed l.tenant l.self.replay.limits) trace l.first l.place
