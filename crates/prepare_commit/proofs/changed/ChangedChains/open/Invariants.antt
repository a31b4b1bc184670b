use Rattle.std.proofs.Common.{◌≡◌, ◌≤◌, replicate, false, vec_capacity}
use Rattle.prepare_commit.proofs.changed.ChangedChains.open.Given as goal

abbrev pub invariant-loop-chain : goal.invariant-loop-chain
invariant-loop-chain l = (l.flags.items ≡ replicate l._chain false) × (l.chains ≤ vec_capacity l.flags) × (l._chain ≤ l.chains)
