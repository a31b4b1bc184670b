use Rattle.std.proofs.Common.{◌≡◌, ◌≤◌, length}
use Rattle.stamps.specs.Limits.{max_keys}
use Rattle.packed.proofs.KeyLoop.{SoFar}
use Rattle.packed.proofs.value_decoding.writes_of.Given as goal

abbrev pub invariant-loop-at : goal.invariant-loop-at
invariant-loop-at l = record {
  within : l.at ≤ l.count;
  full : length l.keys ≡ max_keys;
  so_far : SoFar l.count l.bytes l.keys l.at l.rest;
}
