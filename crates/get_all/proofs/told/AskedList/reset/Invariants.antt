use Rattle.std.proofs.Common.{◌≡◌, length, map}
use Rattle.plain_store.specs.Finding.{below}
use Rattle.get_all.specs.AskedPartition.{asked_at}
use Rattle.get_all.proofs.told.AskedList.reset.Given as goal

-- the partitions so far stand at their places
abbrev pub invariant-loop-partition : goal.invariant-loop-partition
invariant-loop-partition l = record {
  filled : l.self-inside.0 ≡ map asked_at (below l.partition);
  as_many : length l.self-inside.0 ≡ l.partition;
}
