use Rattle.std.proofs.Common.{◌-◌}
use Rattle.stamps.specs.Limits.{max_parts}
use Rattle.history.proofs.tallies.PartitionWords.clocks.Given as goal

abbrev pub decreases-loop-partitions : goal.decreases-loop-partitions
decreases-loop-partitions g l = max_parts - l.partitions.next
