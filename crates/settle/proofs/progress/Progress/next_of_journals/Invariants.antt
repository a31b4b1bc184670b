use Rattle.settle.specs.Input.{input_of}
use Rattle.settle.specs.Trace.{OfJournal, Trace}
use Rattle.settle.specs.Standing.{HasTakenSteps, NoneOfFirst}
use Rattle.settle.proofs.progress.Progress.next_of_journals.Given as goal

-- none so far gives a step that may come next
abbrev pub invariant-loop-partition : goal.invariant-loop-partition
invariant-loop-partition l = (trace : Trace) → HasTakenSteps (input_of l.closed l.tenant l.self.replay.limits) trace l.self → NoneOfFirst (input_of l.closed l.tenant l.self.replay.limits) trace OfJournal l.partition
