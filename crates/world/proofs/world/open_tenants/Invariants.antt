use Rattle.std.proofs.Common.{◌≡◌, ◌≤◌, length, map, take, vec_len, vec_capacity}
use Rattle.std.specs.Prelude.{All}
use Rattle.world.specs.Opening.{IsFresh}
use Rattle.world.specs.declared.tenant.Tenant.{Tenant}
use Rattle.world.proofs.world.open_tenants.Given as goal

-- each tenant so far has its limits and stands for no step, and there is room for the others
abbrev pub invariant-loop-its : goal.invariant-loop-its
invariant-loop-its l = record {
  own : map (λ (tenant : Tenant). tenant.limits) l.tenants.items ≡ take l.its-index l.limits;
  fresh : All (IsFresh l.parts) l.tenants.items;
  count : vec_len l.tenants ≡ l.its-index;
  room : length l.limits ≤ vec_capacity l.tenants;
}
