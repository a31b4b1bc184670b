use Rattle.std.proofs.Common.{◌≡◌, ◌≤◌, map, take, vec_capacity}
use Rattle.stamps.specs.Limits.{max_tenants}
use Rattle.shard.proofs.keep_settings.KeepSettings.of.Given as goal

-- the numbers of the limits so far, with room for those that are left
abbrev pub invariant-loop-its : goal.invariant-loop-its
invariant-loop-its l = record {
  so_far : l.tenants.items ≡ map (λ its. its.keep) (take l.its-index l.limits);
  room : max_tenants ≤ vec_capacity l.tenants;
}
