use Rattle.std.proofs.Common.{◌≤◌}
use Rattle.packed_steps.specs.PackedActs.{item_at}
use Rattle.packed_steps.proofs.ManyLoop.{ManySoFar}
use Rattle.packed_steps.proofs.reading_acts.items_of.Given as goal

abbrev pub invariant-loop-at : goal.invariant-loop-at
invariant-loop-at l = record {
  within : l.at ≤ l.count;
  so_far : ManySoFar item_at l.count l.bytes l.items.items l.at l.rest;
}
