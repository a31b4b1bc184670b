use Rattle.std.proofs.Common.{◌≡◌, ◌+◌, take, drop, map}
use Rattle.secondary_index.specs.declared.pairs.Pair.{Pair}
use Rattle.secondary_index.proofs.pairs.copy_keys.Given as goal

abbrev pub invariant-loop-index : goal.invariant-loop-index
invariant-loop-index l =
    (take l.index l.keys ≡ map (λ (p : Pair). p.key) (take l.index (drop l.first l.pairs.items))) × (l.visits ≡ l.initial.visits + l.index)
