use Rattle.std.proofs.Common.{sym, subst, arith}
use Rattle.prepare_commit.specs.Begun.{HasRoomAt}
use Rattle.prepare_commit.specs.InBlock.{Parts}
use Rattle.prepare_commit.proofs.Lying.{lies_at}
use Rattle.prepare_commit.proofs.cell.Cell.held.Goals as goal

pub held_items-requires : goal.held_items-requires
held_items-requires c =
    let lies = lies_at c.args.block.now _ _ c.self.view_is c.requires.lies in
    let room = subst (λ (p : Parts). HasRoomAt p.begun p.since p.items c.args.free) (sym c.self.view_is) c.requires.free in
    record {
      kept = record {
        stands = lies.versions.stands;
        known = λ k d l. (let given = lies.holds.laid.given k d l in omega (arith, given, c.self.invariant.0, lies.holds.chains));
        spots = omega (arith, c.self.invariant.9, lies.holds.chains);
        long = omega (arith, c.self.invariant.8, lies.holds.chains);
        kept = lies.since;
      };
      free = room.0;
      within = room.1;
    }

pub returns : goal.returns
returns c = rw (← c.self.view_is) c.held_items.ensures
