use Rattle.std.proofs.Common.{arith}
use Rattle.std.proofs.lemmas.List.Elements.{All-push}
use Rattle.world.specs.Opening.{IsOpenedShelf}
use Rattle.world.proofs.world.open_shelves.Goals as goal

pub loop-place-preserved : goal.loop-place-preserved
loop-place-preserved c = record {
  opened = rw c.push_reserved.ensures.items (All-push (IsOpenedShelf c.args.limits.now) _ _ c.loop-place.invariant.opened
      (record { seats = c.in_ok-open.ensures.tenants; room = c.in_ok-open.ensures.rooms; empty = c.in_ok-open.ensures.empty }));
  count = omega (arith, c.push_reserved.ensures.len, c.loop-place.invariant.count);
  room = omega (arith, c.push_reserved.ensures.capacity, c.loop-place.invariant.room);
}
