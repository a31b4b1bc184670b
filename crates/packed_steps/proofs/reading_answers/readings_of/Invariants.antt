use Rattle.std.proofs.Common.{◌≡◌, ◌≤◌, length, take}
use Rattle.stamps.specs.Limits.{max_keys}
use Rattle.packed_steps.specs.PackedAnswers.{reading_at}
use Rattle.packed_steps.proofs.ManyLoop.{ManySoFar}
use Rattle.packed_steps.proofs.reading_answers.readings_of.Given as goal

abbrev pub invariant-loop-at : goal.invariant-loop-at
invariant-loop-at l = record {
  within : l.at ≤ l.count;
  full : length l.readings ≡ max_keys;
  so_far : ManySoFar reading_at l.count l.bytes (take l.at l.readings) l.at l.rest;
}
