use Rattle.std.proofs.Common.{◌≡◌, max, take}
use Rattle.get_all.specs.ReadProgress.{needed_by}
use Rattle.get_all.proofs.read_progress.needed_above.Given as goal

-- the greatest stamp so far
abbrev pub invariant-loop-slot : goal.invariant-loop-slot
invariant-loop-slot l = l.needed ≡ max l.fn.stamp (needed_by (take l.slot-index l.slots) l.key)
