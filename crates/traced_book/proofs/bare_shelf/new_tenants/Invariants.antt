use Rattle.std.proofs.Common.{◌≡◌, ◌≤◌, length, map, take, vec_len, vec_capacity}
use Rattle.traced_book.specs.Bare.{new_tenant}
use Rattle.traced_book.proofs.bare_shelf.new_tenants.Given as goal

-- those of the limits so far, and there is room for the others
abbrev pub invariant-loop-its : goal.invariant-loop-its
invariant-loop-its l = record {
  tenants : l.tenants.items ≡ map new_tenant (take l.its-index l.limits);
  count : vec_len l.tenants ≡ l.its-index;
  room : length l.limits ≤ vec_capacity l.tenants;
}
