-- The partitions that a search asks, and whether they told what they found.
use Rattle.std.specs.Prelude.{ℕ, Bool, false, ◌&&◌, ◌||◌, ◌==◌, not}
use Rattle.get_all.specs.declared.told.AskedPartition.{AskedPartition}

abbrev pub asked_at : ℕ → AskedPartition
asked_at partition = record { partition = partition; has_told = false }

-- once this partition told what it found
abbrev pub with_told : ℕ → AskedPartition → AskedPartition
with_told partition asked = record {
  partition = asked.partition;
  has_told = asked.has_told || asked.partition == partition;
}

abbrev pub awaits : ℕ → AskedPartition → Bool
awaits partition asked = asked.partition == partition && not asked.has_told
