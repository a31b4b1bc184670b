use Rattle.std.proofs.Common.{◌≤◌, take}
use Rattle.stamps.specs.Limits.{max_tenants}
use Rattle.shard.specs.UsedAt.{AreUsagesOf}
use Rattle.shard.proofs.shard.ShardState.put_usages.Given as goal

-- those of the tenants so far, of each of which there is a number
abbrev pub invariant-loop-tenant : goal.invariant-loop-tenant
invariant-loop-tenant g l = record {
  used : AreUsagesOf (take l.tenant l.self.book.accounts) l.self.collections l.usages.items;
  few : l.tenant ≤ max_tenants;
}
