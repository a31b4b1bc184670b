use Rattle.std.proofs.Common.{◌≡◌, ◌++◌, length, take}
use Rattle.std.specs.List.{flat_map, AllByRecursion}
use Rattle.packed_steps.specs.PackedActs.{packed_item, IsStoreItem}
use Rattle.packed.specs.Packing.{packed_number}
use Rattle.packed_steps.proofs.writing_acts.put_items.Given as goal

abbrev pub invariant-loop-item : goal.invariant-loop-item
invariant-loop-item l = record {
  packed : l.out.items ≡ (l.fn.out.items ++ packed_number (length l.items)) ++ flat_map packed_item (take l.item-index l.items);
  each : AllByRecursion IsStoreItem (take l.item-index l.items);
}
