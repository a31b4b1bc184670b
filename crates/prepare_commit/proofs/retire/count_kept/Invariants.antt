use Rattle.std.proofs.Common.{◌≡◌, ◌≤◌, length}
use Rattle.std.specs.List.{sum_by}
use Rattle.prepare_commit.proofs.Keeping.{AreCounts}
use Rattle.prepare_commit.proofs.retire.count_kept.Given as goal

abbrev pub invariant-loop-chain : goal.invariant-loop-chain
invariant-loop-chain l =
    (length l.counts.items ≡ length l.parts) × AreCounts l.spots l.since l.chain l.counts.items
    × (sum_by (λ n. n) l.counts.items ≤ l.chain)
