use Rattle.std.proofs.Common.{◌≡◌, ◌≤◌, take, vec_capacity, vec_len}
use Rattle.stamps.specs.Limits.{max_tenants}
use Rattle.shard.proofs.keep_settings.fill.Given as goal

-- as many as were filled so far, behind those that were there, with room for the others
abbrev pub invariant-loop-place : goal.invariant-loop-place
invariant-loop-place l = record {
  many : vec_len l.tenants ≡ l.place;
  kept : take (vec_len l.fn.tenants) l.tenants.items ≡ l.fn.tenants.items;
  room : max_tenants ≤ vec_capacity l.tenants;
}
