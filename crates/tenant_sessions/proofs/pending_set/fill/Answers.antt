use Rattle.std.proofs.Common.{ap, arith, length}
use Rattle.tenant_sessions.proofs.Placed.{length-below}
use Rattle.tenant_sessions.proofs.pending_set.fill.Goals as goal

pub push-requires : goal.push-requires
push-requires c = omega (arith, ap length c.loop-place.invariant, length-below c.loop-place.place, c.min-place-end.ensures)
