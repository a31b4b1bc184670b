use Rattle.std.proofs.Common.{refl}
use Rattle.prepare_commit.specs.Layout.{chain_lists}
use Rattle.prepare_commit.proofs.PackedAhead.{packs_none}
use Rattle.prepare_commit.proofs.ahead.pack_noted.Goals as goal

pub loop-nth-init : goal.loop-nth-init
loop-nth-init c =
    let last = c.args.last.now in (
      record {
        cut = rw (c.in_ok-with_capacity-2.ensures.items, c.new.ensures) refl;
        many = rw (c.in_ok-with_capacity-2.ensures.items, c.in_ok-with_capacity.ensures.items) refl;
        within = c.requires.within;
        spots = c.requires.kept.spots;
        long = c.requires.kept.long;
        kept = rw c.in_ok-with_capacity.ensures.items (packs_none last.parts c.args.free c.requires.within last.spots.items last.since c.args.items.now.items (chain_lists c.args.block.now c.args.versions.now.chains) c.requires.free c.requires.kept.kept);
      },
      refl,
      refl,
    )
