use Rattle.std.proofs.Common.{arith}
use Rattle.shard.proofs.Short.{absent-short}
use Rattle.shard.proofs.shard.is_full.Goals as goal

-- a tenant that is not there has no events
pub returns-then-tenant-tenants-clause-short : goal.returns-then-tenant-tenants-clause-short
returns-then-tenant-tenants-clause-short g c is some = absent-short _ _ _ (omega arith) some
