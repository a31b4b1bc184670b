use Rattle.std.proofs.Common.{◌≡◌, ◌+◌, ◌*◌, ◌≤◌, ◌++◌, length, take}
use Rattle.std.specs.List.{flat_map, AllByRecursion}
use Rattle.packed.specs.Packing.{packed_number}
use Rattle.packed.specs.Sizes.{max_number_bytes}
use Rattle.packed_steps.specs.Sizes.{max_reading_bytes}
use Rattle.packed_steps.specs.PackedAnswers.{packed_reading, IsStoreReading}
use Rattle.packed_steps.proofs.writing_answers.put_readings.Given as goal

abbrev pub invariant-loop-reading : goal.invariant-loop-reading
invariant-loop-reading l = record {
  packed : l.out.items ≡ (l.fn.out.items ++ packed_number (length l.readings)) ++ flat_map packed_reading (take l.reading-index l.readings);
  each : AllByRecursion IsStoreReading (take l.reading-index l.readings);
  few : length l.out.items ≤ length l.fn.out.items + max_number_bytes + max_reading_bytes * l.reading-index;
  room : l.fn.out.capacity ≤ l.out.capacity;
}
