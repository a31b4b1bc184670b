use Rattle.std.proofs.Common.{◌≡◌, ◌+◌, length, ap, sym, ◌∙◌, arith}
use Rattle.prepare_commit.specs.Layout.{chain_lists, together, item_chains}
use Rattle.prepare_commit.proofs.Chaining.{lists_long}
use Rattle.prepare_commit.proofs.Collecting.{collect_holds, collect_serves}
use Rattle.prepare_commit.proofs.Lying.{lies_at, has_all}
use Rattle.prepare_commit.proofs.Since.{kept_collected}
use Rattle.prepare_commit.specs.Remembered.{in_either}
use Rattle.prepare_commit.specs.Spots.{begun_by}
use Rattle.prepare_commit.proofs.cell.Cell.collect_items.Goals as goal

pub note_collected-requires : goal.note_collected-requires
note_collected-requires c = record { as_long = c.self.invariant.8 ∙ sym c.self.invariant.7; left = c.self.invariant.8 ∙ sym c.self.invariant.10; chains = c.self.invariant.8 }

pub collect-requires : goal.collect-requires
collect-requires c =
    let lies = lies_at c.args.block.now _ _ c.self.view_is c.requires in
    record {
      held = record { lies = lies.versions; have = has_all _ _ lies c.self.invariant.0 };
      few = omega (arith, lies.holds.fits, c.self.invariant.2);
      long = omega (arith, c.self.invariant.7, lies.holds.chains);
      as_long = c.self.invariant.10 ∙ sym c.self.invariant.7;
      noted = record { remembers = lies.remembers; least = lies.remembers_least };
    }

pub returns : goal.returns
returns c =
    let done = c.collect.ensures.collected in
    let left = done.left in
    let items = c.self.inside.entries.items in
    let start = chain_lists c.args.block.now c.self.inside.versions.chains in
    let lists = chain_lists c.collect.new.block c.collect.new.versions.chains in
    let lies = lies_at c.args.block.now _ _ c.self.view_is c.requires in
    let freed : c.collect.result + length (together (item_chains c.collect.new.items.items lists)) ≡ length (together (item_chains items start)) = omega (arith, left.fewer, left.held.have.counted, lies.holds.counted) in
    record {
      lies = record {
        versions = left.held.lies;
        remembers = c.collect.ensures.noted.remembers;
        remembers_least = c.collect.ensures.noted.least;
        since =
            let begun = begun_by c.self.inside.last_base in
            rw done.raised (kept_collected begun c.args.keep c.self.inside.last c.self.inside.changed c.self.inside.least (in_either c.self.inside.left c.self.inside.changed) c.self.inside.last_base.since c.note_collected.new.since items start lists lies.remembers lies.remembers_least (λ chain within. (c.note_collected.ensures.noted chain within).0)
            (λ k d w. (let given = lies.holds.laid.given k d w in omega (arith, given, c.self.invariant.0, c.self.invariant.8))) (ap (λ xs. item_chains xs lists) (sym done.raised) ∙ done.kept) lies.since);
        holds = collect_holds _ _ _ _ c.collect.new.versions.chains _ _ lies done.raised done.kept freed left.held.have.laid left.fewer (left.own.shape.share, lists_long _ _ _ _ left.own);
      };
      own = rw (← c.self.view_is) left.own;
      serves = rw (← c.self.view_is) (collect_serves _ _ _ _ c.collect.new.versions.chains _ _ lies done.raised done.kept freed);
    }
