use Rattle.std.proofs.Common.{◌≡◌, take}
use Rattle.stamps.specs.Stamp.{greatest_by}
use Rattle.plain_store.specs.Rounds.{stamp_seen}
use Rattle.get_all.specs.declared.read_progress.KeyProgress.{KeyProgress}
use Rattle.get_all.proofs.read_progress.newest.Given as goal

-- the greatest stamp so far
abbrev pub invariant-loop-slot : goal.invariant-loop-slot
invariant-loop-slot l = l.newest ≡ greatest_by (λ (slot : KeyProgress). stamp_seen slot.first) (take l.slot-index l.slots)
