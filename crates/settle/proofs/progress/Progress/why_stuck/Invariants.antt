use Rattle.std.proofs.Common.{◌<◌, ℕ}
use Rattle.settle.specs.Input.{input_of}
use Rattle.settle.specs.Trace.{Trace}
use Rattle.settle.specs.Fronts.{IsUnsentAt}
use Rattle.settle.specs.Standing.{HasTakenSteps}
use Rattle.settle.proofs.progress.Progress.why_stuck.Given as goal

-- no event so far is unsent
abbrev pub invariant-loop-partition : goal.invariant-loop-partition
invariant-loop-partition l = (trace : Trace) → HasTakenSteps (input_of l.closed l.tenant l.self.replay.limits) trace l.self → (k : ℕ) → k < l.partition → IsUnsentAt (input_of l.closed l.tenant l.self.replay.limits) trace k → ⊥
