use Rattle.std.proofs.Common.{◌≡◌, ◌≤◌, length, map, take}
use Rattle.get_all.specs.ReadProgress.{slot_for}
use Rattle.get_all.proofs.read_progress.reset_first.Given as goal

-- the slots so far are those of the keys so far
abbrev pub invariant-loop-i : goal.invariant-loop-i
invariant-loop-i l = record {
  filled : take l.i l.slots ≡ map slot_for (take l.i l.keys);
  as_long : length l.slots ≡ length l.initial.slots;
  few : l.i ≤ length l.keys;
}
