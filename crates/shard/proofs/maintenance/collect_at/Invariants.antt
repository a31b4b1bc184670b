use Rattle.std.proofs.Common.{◌≡◌}
use Rattle.shard.proofs.maintenance.collect_at.Given as goal

-- each tenant so far had its turn
abbrev pub invariant-loop-tenant : goal.invariant-loop-tenant
invariant-loop-tenant g l = l.round.next ≡ l.tenant
