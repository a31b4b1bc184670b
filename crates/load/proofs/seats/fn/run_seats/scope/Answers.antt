use Rattle.std.proofs.Common.{◌≡◌, ap, refl, arith}
use Rattle.load.specs.declared.seats.LoadSeat.{LoadSeat}
use Rattle.load.proofs.Promised.{ordered_more, seat_begun, tenant_begun}
use Rattle.load.proofs.seats.fn.run_seats.scope.Goals as goal

pub loop-nth-preserved : goal.loop-nth-preserved
loop-nth-preserved g c = record {
  named = seat_begun c.loop-nth.handles.items c.push_reserved.new.self.items c.in-Ok-started.handle _ c.loop-tenant.tenant c.captures.seats c.loop-nth.nth
      c.push_reserved.ensures.items c.in-Ok-started.ensures.ok refl c.loop-nth.invariant.named;
  ordered = ordered_more _ _ _ _ c.push_reserved.ensures.items (ap (λ (p : LoadSeat). p.orders) c.in-Ok-started.ensures.ok) c.loop-nth.invariant.ordered;
  many = omega (arith, c.push_reserved.ensures.len, c.loop-nth.invariant.many);
  room = rw c.push_reserved.ensures.capacity c.loop-nth.invariant.room;
}

pub loop-tenant-preserved : goal.loop-tenant-preserved
loop-tenant-preserved g c =
    let all : c.loop-nth.nth ≡ c.captures.seats = omega arith in record {
      named = tenant_begun c.loop-nth.handles.items c.loop-tenant.tenant c.captures.seats c.loop-nth.nth all c.loop-nth.invariant.named;
      ordered = c.loop-nth.invariant.ordered;
      many = omega (arith, all, c.loop-nth.invariant.many);
      room = c.loop-nth.invariant.room;
    }
