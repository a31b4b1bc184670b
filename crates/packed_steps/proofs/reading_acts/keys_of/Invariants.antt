use Rattle.std.proofs.Common.{◌≤◌}
use Rattle.packed.specs.Reading.{key_at}
use Rattle.packed_steps.proofs.ManyLoop.{ManySoFar}
use Rattle.packed_steps.proofs.reading_acts.keys_of.Given as goal

abbrev pub invariant-loop-at : goal.invariant-loop-at
invariant-loop-at l = record {
  within : l.at ≤ l.count;
  so_far : ManySoFar key_at l.count l.bytes l.keys.items l.at l.rest;
}
