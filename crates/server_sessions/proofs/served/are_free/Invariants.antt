use Rattle.std.proofs.Common.{take}
use Rattle.server_sessions.specs.Places.{AreFree}
use Rattle.server_sessions.proofs.served.are_free.Given as goal

abbrev pub invariant-loop-place : goal.invariant-loop-place
invariant-loop-place l = AreFree (take l.place l.places)
