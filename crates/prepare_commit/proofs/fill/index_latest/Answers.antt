use Rattle.std.proofs.Common.{◌<◌, length, ap, sym, subst, refl, arith}
use Rattle.std.proofs.lemmas.List.{length-map, take_all}
use Rattle.std.proofs.lemmas.List.Elements.{All-nil, All-map}
use Rattle.secondary_index.specs.Index.{Tags, tag_of}
use Rattle.prepare_commit.specs.declared.items.KnownItem.{KnownItem}
use Rattle.prepare_commit.specs.declared.items.ChainedItem.{ChainedItem}
use Rattle.prepare_commit.specs.Bases.{IsTagOf}
use Rattle.prepare_commit.specs.Content.{KnowsItems}
use Rattle.prepare_commit.specs.Layout.{chain_lists, together, item_chains, entries_of}
use Rattle.prepare_commit.proofs.Chaining.{has_chain}
use Rattle.prepare_commit.proofs.Filling.{AreRight, entries_none, has_entry, entries_more, right_more}
use Rattle.prepare_commit.proofs.Moving.{knows_none, knows_set, has_place}
use Rattle.prepare_commit.proofs.OwnChains.{own_chain}
use Rattle.prepare_commit.proofs.fill.index_latest.Goals as goal

pub loop-place-init : goal.loop-place-init
loop-place-init c =
    let items = c.args.items.now.items in (
      refl,
      subst (λ (tags : Tags). KnowsItems tags (entries_of items)) (sym c.requires.empty) (knows_none (entries_of items)),
      entries_none (entries_of items) c.args.index.now.tags c.requires.empty,
      All-nil (λ (i : ChainedItem). IsTagOf i.entry.key (together (item_chains items (chain_lists c.args.block.now c.args.held.now.chains))) (tag_of c.args.index.now.tags i.entry.key)),
    )

pub latest_tag-requires : goal.latest_tag-requires
latest_tag-requires c =
    let given = c.requires.laid.given c.loop-place.place c.get-item.result.now (omega (arith, c.loop-place-test.true, c.len-place-end.ensures)) in
    has_chain c.args.block.now c.args.held.now.chains c.get-item.result.now.chain c.requires.stands (omega (arith, given, c.requires.within, ap (λ (i : ChainedItem). i.chain) c.get-item.ensures))

pub move_numbered-requires : goal.move_numbered-requires
move_numbered-requires c =
    let items = c.args.items.now.items in
    let i = c.get-item.result.now in
    let within : c.loop-place.place < length items = omega (arith, c.loop-place-test.true, c.len-place-end.ensures) in
    has_place c.loop-place.index (entries_of items) i.entry.key
    (has_entry items (chain_lists c.args.block.now c.args.held.now.chains) c.requires.laid c.loop-place.place i within c.get-item.ensures c.latest_tag.result c.loop-place.index.tags)
    c.loop-place.invariant.1 (omega (arith, length-map items (λ (x : ChainedItem). x.entry), c.requires.room, c.loop-place.invariant.0))

pub loop-place-preserved : goal.loop-place-preserved
loop-place-preserved c =
    let items = c.args.items.now.items in
    let chains = chain_lists c.args.block.now c.args.held.now.chains in
    let k = c.loop-place.place in
    let i = c.get-item.result.now in
    let is = c.get-item.ensures in
    let tag = c.latest_tag.result in
    let tags = c.loop-place.index.tags in
    let within : k < length items = omega (arith, c.loop-place-test.true, c.len-place-end.ensures) in
    rw c.move_numbered.ensures (
      c.loop-place.invariant.0,
      knows_set tags i.entry.key tag (entries_of items) (has_entry items chains c.requires.laid k i within is tag tags) c.loop-place.invariant.1,
      entries_more items chains c.requires.laid k i within is tag tags c.loop-place.invariant.2,
      right_more items chains c.requires.laid k i within is tag tags c.loop-place.invariant.3 (c.latest_tag.ensures i.entry.key (own_chain items chains c.requires.laid k i within is)),
    )

pub returns : goal.returns
returns c =
    let items = c.args.items.now.items in
    let all = together (item_chains items (chain_lists c.args.block.now c.args.held.now.chains)) in
    let so_far = c.loop-place.invariant in
    record {
      room = so_far.0;
      knows = so_far.1;
      known = so_far.2;
      right = All-map (λ (e : KnownItem). IsTagOf e.key all (tag_of c.loop-place.index.tags e.key)) (λ (i : ChainedItem). i.entry) items
          (subst (AreRight all c.loop-place.index.tags) (take_all c.loop-place.place items (omega (arith, c.loop-place-test.false, c.len-place-end.ensures))) so_far.3);
    }
