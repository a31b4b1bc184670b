use Rattle.std.proofs.Common.{◌≡◌, length, count_by}
use Rattle.prepare_commit.proofs.changed.ChangedChains.clear.Given as goal

abbrev pub invariant-loop-chain : goal.invariant-loop-chain
invariant-loop-chain l = length l.self ≡ length l.initial.self

abbrev pub decreases-loop-chain : goal.decreases-loop-chain
decreases-loop-chain l = count_by (λ b. b) l.self
