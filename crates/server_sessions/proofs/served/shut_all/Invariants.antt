use Rattle.std.proofs.Common.{◌≡◌, take}
use Rattle.server_sessions.specs.Places.{taken_count}
use Rattle.server_sessions.proofs.served.shut_all.Given as goal

abbrev pub invariant-loop-place : goal.invariant-loop-place
invariant-loop-place l = l.count ≡ taken_count (take l.place-index l.places)
