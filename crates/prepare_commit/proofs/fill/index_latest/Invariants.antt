use Rattle.std.proofs.Common.{◌≡◌, take}
use Rattle.prepare_commit.specs.Content.{KnowsItems}
use Rattle.prepare_commit.specs.Layout.{chain_lists, together, item_chains, entries_of}
use Rattle.prepare_commit.proofs.Filling.{KnowsEntries, AreRight}
use Rattle.prepare_commit.proofs.fill.index_latest.Given as goal

abbrev pub invariant-loop-place : goal.invariant-loop-place
invariant-loop-place l =
    (l.index.room ≡ l.fn.index.room)
    × KnowsItems l.index.tags (entries_of l.items.items)
    × KnowsEntries (entries_of l.items.items) l.index.tags
    × AreRight (together (item_chains l.items.items (chain_lists l.block l.held.chains))) l.index.tags (take l.place l.items.items)
