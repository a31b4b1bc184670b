use Rattle.std.proofs.Common.{◌≡◌, ◌++◌, length, take}
use Rattle.std.specs.List.{flat_map, AllByRecursion}
use Rattle.stamps.specs.Key.{IsKey}
use Rattle.packed.specs.Packing.{packed_number, packed_text}
use Rattle.packed_steps.proofs.writing_acts.put_all_keys.Given as goal

abbrev pub invariant-loop-key : goal.invariant-loop-key
invariant-loop-key l = record {
  packed : l.out.items ≡ (l.fn.out.items ++ packed_number (length l.keys)) ++ flat_map packed_text (take l.key-index l.keys);
  each : AllByRecursion IsKey (take l.key-index l.keys);
}
