use Rattle.std.proofs.Common.{◌≡◌, ◌≤◌, ◌++◌, length, take}
use Rattle.stamps.proofs.write_set.read_each.Given as goal

-- the keys so far, and those that are left
abbrev pub invariant-loop-at : goal.invariant-loop-at
invariant-loop-at g l = record {
  as_long : length l.keys ≡ length l.initial.keys;
  few : l.at ≤ length l.keys;
  read : take l.at l.keys ++ g.S.KeySource.keys_left l.source ≡ g.S.KeySource.keys_left l.initial.source;
}
