use Rattle.std.proofs.Common.{◌≡◌, vec_len}
use Rattle.server_sessions.specs.Places.{AreFree}
use Rattle.server_sessions.proofs.served.free_places.Given as goal

abbrev pub invariant-loop-place : goal.invariant-loop-place
invariant-loop-place l = (vec_len l.places ≡ l._place) × AreFree l.places.items
