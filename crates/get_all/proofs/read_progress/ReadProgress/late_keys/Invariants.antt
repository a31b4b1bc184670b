use Rattle.std.proofs.Common.{◌≡◌, ◌≤◌, length, map, filter, take}
use Rattle.get_all.specs.ReadProgress.{is_late_by, late_of}
use Rattle.get_all.proofs.read_progress.ReadProgress.late_keys.Given as goal

-- the late keys so far
abbrev pub invariant-loop-i : goal.invariant-loop-i
invariant-loop-i l = record {
  found : l.late ≡ map (late_of l.self) (filter (is_late_by l.self) (take l.i l.slots));
  few : length l.late ≤ l.i;
}
