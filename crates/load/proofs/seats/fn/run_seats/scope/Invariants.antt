use Rattle.std.proofs.Common.{◌≡◌, ◌≤◌, ◌+◌, ◌*◌, ◌++◌, All, map, vec_len, vec_capacity}
use Rattle.load.specs.Rounds.{seats_of, seats_of_tenant}
use Rattle.load.proofs.seats.fn.run_seats.scope.Given as goal

abbrev pub invariant-loop-tenant : goal.invariant-loop-tenant
invariant-loop-tenant g l = record {
  named : map (λ h. (h.promise.tenant, h.promise.number)) l.handles.items ≡ seats_of l.tenant l.seats;
  ordered : All (λ h. h.promise.orders ≡ l.orders) l.handles.items;
  many : vec_len l.handles ≡ l.tenant * l.seats;
  room : l.tenant-end * l.seats ≤ vec_capacity l.handles;
}

abbrev pub invariant-loop-nth : goal.invariant-loop-nth
invariant-loop-nth g l = record {
  named : map (λ h. (h.promise.tenant, h.promise.number)) l.handles.items ≡ seats_of l.tenant l.seats ++ seats_of_tenant l.nth l.tenant;
  ordered : All (λ h. h.promise.orders ≡ l.orders) l.handles.items;
  many : vec_len l.handles ≡ l.tenant * l.seats + l.nth;
  room : l.tenant-end * l.seats ≤ vec_capacity l.handles;
}
