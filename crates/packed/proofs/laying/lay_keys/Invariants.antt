use Rattle.std.proofs.Common.{◌≡◌, ◌+◌, ◌*◌, ◌≤◌, ◌∷◌, ◌++◌, length, take}
use Rattle.std.specs.List.{flat_map, AllByRecursion}
use Rattle.stamps.specs.Key.{IsKey}
use Rattle.packed.specs.Packing.{packed_text}
use Rattle.packed.specs.Sizes.{max_key_bytes}
use Rattle.packed.proofs.laying.lay_keys.Given as goal

abbrev pub invariant-loop-key : goal.invariant-loop-key
invariant-loop-key l = record {
  laid : take l.end l.bytes ≡ take l.at l.fn.bytes ++ length l.keys ∷ flat_map packed_text (take l.key-index l.keys);
  keys : AllByRecursion IsKey (take l.key-index l.keys);
  few : l.end ≤ l.at + 1 + max_key_bytes * l.key-index;
}
