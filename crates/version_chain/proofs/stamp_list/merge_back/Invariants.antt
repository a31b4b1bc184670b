use Rattle.std.proofs.Common.{◌+◌, take}
use Rattle.version_chain.proofs.Merging.{Merging}
use Rattle.version_chain.proofs.stamp_list.merge_back.Given as goal

abbrev pub invariant-loop-unplaced : goal.invariant-loop-unplaced
invariant-loop-unplaced l = Merging (take l.front l.initial.list) l.run l.list l.left l.unplaced

abbrev pub decreases-loop-unplaced : goal.decreases-loop-unplaced
decreases-loop-unplaced l = l.left + l.unplaced
