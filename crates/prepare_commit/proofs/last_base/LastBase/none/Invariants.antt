use Rattle.std.proofs.Common.{◌≡◌, ◌≤◌, length, vec_capacity}
use Rattle.prepare_commit.proofs.last_base.LastBase.none.Given as goal

abbrev pub invariant-loop-chain : goal.invariant-loop-chain
invariant-loop-chain l = (length l.spots.items ≡ l._chain) × (l.chains ≤ vec_capacity l.spots) × (l._chain ≤ l.chains)
