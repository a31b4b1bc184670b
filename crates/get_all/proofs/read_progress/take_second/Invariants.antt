use Rattle.std.proofs.Common.{◌≡◌, ◌++◌, map, take, drop}
use Rattle.get_all.specs.ReadProgress.{with_second}
use Rattle.get_all.proofs.read_progress.take_second.Given as goal

-- the slots so far are marked
abbrev pub invariant-loop-slot : goal.invariant-loop-slot
invariant-loop-slot l =
    l.slots ≡ map (with_second l.key l.version) (take l.slot-index l.initial.slots) ++ drop l.slot-index l.initial.slots
