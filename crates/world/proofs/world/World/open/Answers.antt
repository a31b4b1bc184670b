use Rattle.world.proofs.Opening.{opened_stands}
use Rattle.world.proofs.world.World.open.Goals as goal

pub returns : goal.returns
returns c = record {
  parts = c.in_ok-shelves.ensures.count;
  limits = c.in_ok-tenants.ensures.limits;
  stands =
      opened_stands c.args.parts c.args.limits.now c.in_ok-shelves.shelves.items c.in_ok-tenants.tenants.items c.in_ok-shelves.ensures.count c.in_ok-shelves.ensures.opened c.in_ok-tenants.ensures.limits c.in_ok-tenants.ensures.fresh;
}
