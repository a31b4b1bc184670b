use Rattle.std.proofs.Common.{take}
use Rattle.server_sessions.specs.Places.{AreTaken}
use Rattle.server_sessions.proofs.served.first_free.Given as goal

abbrev pub invariant-loop-place : goal.invariant-loop-place
invariant-loop-place l = AreTaken (take l.place l.places)
