use Rattle.std.proofs.Common.{◌<◌, ◌∙◌, ℕ, Option, IfSome, length, arith, refl, subst, sym}
use Rattle.stamps.specs.Limits.{max_tenants}
use Rattle.shard.proofs.UsedMore.{used_more}
use Rattle.shard.proofs.shard.ShardState.put_usages.Goals as goal

pub loop-tenant-preserved : goal.loop-tenant-preserved
loop-tenant-preserved g c =
    let self = c.args.self.now in
    let nth = c.loop-tenant.tenant in
    let so_far = c.loop-tenant.invariant in
    let within : nth < length self.book.accounts = omega (arith, c.loop-tenant-test.true, c.tenants-tenant-end.ensures) in
    let few : nth < max_tenants = subst (λ (found : Option ℕ). IfSome found (λ _. nth < max_tenants)) c.in-Some.is c.of_tenant.ensures.there in
    record {
      used = rw c.in_ok-push.ensures.items (used_more self.book.accounts self.collections c.loop-tenant.usages.items nth c.in-Some.collections _ within
          so_far.used (sym c.of_tenant.ensures.count ∙ c.in-Some.is) refl
          c.usage-usage.ensures);
      few = omega (arith, few);
    }
