use Rattle.std.proofs.Common.{◌≡◌, drop}
use Rattle.settle.specs.Program.{noted, items_of}
use Rattle.settle.specs.Standing.{AreAll}
use Rattle.settle.proofs.steps_taken.after_noted.Given as goal

-- the answers noted so far are this one, and nothing else was done
abbrev pub invariant-loop-place : goal.invariant-loop-place
invariant-loop-place l = record {
  whole : AreAll l.answer (noted (drop l.place l.entries.items)) → AreAll l.answer (noted (drop l.from l.entries.items));
  rest : AreAll l.answer (noted (drop l.from l.entries.items)) → AreAll l.answer (noted (drop l.place l.entries.items));
  same : items_of (drop l.place l.entries.items) ≡ items_of (drop l.from l.entries.items);
}
