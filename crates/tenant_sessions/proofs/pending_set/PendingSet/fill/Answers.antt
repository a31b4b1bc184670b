use Rattle.std.proofs.Common.{arith, ap, length}
use Rattle.std.specs.Prelude.{min}
use Rattle.stamps.specs.Limits.{max_parts}
use Rattle.tenant_sessions.proofs.Placed.{length-below}
use Rattle.tenant_sessions.proofs.pending_set.PendingSet.fill.Goals as goal

pub invariant_of-self : goal.invariant_of-self
invariant_of-self c = (omega arith, omega (arith, ap length c.fill.ensures, length-below (min c.args.count max_parts)))
