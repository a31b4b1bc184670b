use Rattle.std.proofs.Common.{arith}
use Rattle.prepare_commit.proofs.Lying.{lies_at}
use Rattle.prepare_commit.proofs.cell.Cell.has.Goals as goal

pub has_items-requires : goal.has_items-requires
has_items-requires c =
    let lies = lies_at c.args.block.now _ _ c.self.view_is c.requires in
    record {
      stands = lies.versions.stands;
      known = λ k d l. (let given = lies.holds.laid.given k d l in omega (arith, given, c.self.invariant.0, lies.holds.chains));
      spots = omega (arith, c.self.invariant.9, lies.holds.chains);
      long = omega (arith, c.self.invariant.8, lies.holds.chains);
      kept = lies.since;
    }

pub returns : goal.returns
returns c = rw (← c.self.view_is) c.has_items.ensures
