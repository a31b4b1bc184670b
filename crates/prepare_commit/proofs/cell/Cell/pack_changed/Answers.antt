use Rattle.std.proofs.Common.{sym, subst, arith}
use Rattle.prepare_commit.specs.Begun.{HasRoomAt}
use Rattle.prepare_commit.specs.InBlock.{Parts}
use Rattle.prepare_commit.specs.Layout.{chain_lists}
use Rattle.prepare_commit.proofs.Lying.{lies_at, has_all}
use Rattle.prepare_commit.proofs.Since.{kept_noted_all}
use Rattle.prepare_commit.proofs.cell.Cell.pack_changed.Goals as goal

pub pack_noted-requires : goal.pack_noted-requires
pack_noted-requires c =
    let lies = lies_at c.args.block.now _ _ c.self-2.view_is (c.tidy.ensures.lies c.args.block.now c.requires) in
    let room = subst (λ (p : Parts). HasRoomAt p.begun p.since p.items c.in-Ok.free) (sym c.self-2.view_is) (c.in-Ok.ensures.free c.args.block.now c.requires) in
    record {
      held = record { lies = lies.versions; have = has_all _ _ lies c.self-2.invariant.0 };
      kept = record {
        stands = lies.versions.stands;
        known = λ k d l. (let given = lies.holds.laid.given k d l in omega (arith, given, c.self-2.invariant.0, lies.holds.chains));
        spots = omega (arith, c.self-2.invariant.9, lies.holds.chains);
        long = omega (arith, c.self-2.invariant.8, lies.holds.chains);
        kept = lies.since;
      };
      free = room.0;
      within = room.1;
    }

pub returns-in-Err-clause-lies : goal.returns-in-Err-clause-lies
returns-in-Err-clause-lies c =
    let lies = lies_at c.args.block.now _ _ c.self-2.view_is (c.tidy.ensures.lies c.args.block.now c.requires) in
    let cell = c.self-2.inside in
    record {
      versions = lies.versions;
      remembers = lies.remembers;
      remembers_least = lies.remembers_least;
      since = kept_noted_all (record { parts = c.pack_noted.new.last.parts; spots = c.pack_noted.new.last.spots.items }) c.note_all.new.self cell.entries.items (chain_lists c.args.block.now cell.versions.chains)
          (λ chain less. c.note_all.ensures.noted chain (omega (arith, less, c.note_all.ensures.long)))
          (λ k d w. (let given = lies.holds.laid.given k d w in omega (arith, given, c.self-2.invariant.0, c.note_all.ensures.long, c.pack_noted.ensures.since, c.self-2.invariant.8)));
      holds = lies.holds;
    }

pub returns-in-Ok-pack_noted-clause-lies : goal.returns-in-Ok-pack_noted-clause-lies
returns-in-Ok-pack_noted-clause-lies c =
    let lies = lies_at c.args.block.now _ _ c.self-2.view_is (c.tidy.ensures.lies c.args.block.now c.requires) in
    record {
      versions = lies.versions;
      remembers = lies.remembers;
      remembers_least = lies.remembers_least;
      since = c.in-Ok-pack_noted.ensures.kept;
      holds = lies.holds;
    }
