use Rattle.std.proofs.Common.{◌≡◌}
use Rattle.plain_store.specs.Finding.{below}
use Rattle.tenant_sessions.proofs.pending_set.fill.Given as goal

-- the places so far
abbrev pub invariant-loop-place : goal.invariant-loop-place
invariant-loop-place l = l.places ≡ below l.place
