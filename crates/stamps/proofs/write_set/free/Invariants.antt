use Rattle.std.proofs.Common.{◌≡◌, ◌-◌, ◌≤◌, length, take, drop}
use Rattle.std.specs.Prelude.{replicate}
use Rattle.stamps.specs.WriteSet.{unused_key}
use Rattle.stamps.proofs.write_set.free.Given as goal

-- those from this place on are free
abbrev pub invariant-loop-left : goal.invariant-loop-left
invariant-loop-left l = record {
  kept : take l.from l.keys ≡ take l.from l.initial.keys;
  len : length l.keys ≡ length l.initial.keys;
  within : l.left ≤ length l.keys;
  free : drop l.left l.keys ≡ replicate (length l.keys - l.left) unused_key;
}

abbrev pub decreases-loop-left : goal.decreases-loop-left
decreases-loop-left l = l.left
