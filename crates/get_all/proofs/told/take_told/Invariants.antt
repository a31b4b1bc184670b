use Rattle.std.proofs.Common.{◌≡◌, ◌++◌, map, take, drop}
use Rattle.get_all.specs.AskedPartition.{with_told}
use Rattle.get_all.proofs.told.take_told.Given as goal

-- the partitions so far are marked
abbrev pub invariant-loop-one : goal.invariant-loop-one
invariant-loop-one l =
    l.asked ≡ map (with_told l.partition) (take l.one-index l.initial.asked) ++ drop l.one-index l.initial.asked
