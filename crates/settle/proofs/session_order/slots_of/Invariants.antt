use Rattle.settle.specs.Sessions.{AreSlots}
use Rattle.settle.proofs.session_order.slots_of.Given as goal

-- the first of each seat so far
abbrev pub invariant-loop-place : goal.invariant-loop-place
invariant-loop-place l = AreSlots l.transcripts l.tenant l.place l.slots
