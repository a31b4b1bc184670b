-- A cell whose versions lie in a block that the caller passes to each of its calls.
use Rattle.std.specs.Prelude.{ℕ, Bool, List, Option}
use Rattle.plain_store.specs.Words.{Room}
use Rattle.version_chain.specs.Heads.{Heads}
use Rattle.version_chain.specs.Chain.{Cells, HoldsChains}
use Rattle.version_chain.specs.Listed.{Lists}
use Rattle.secondary_index.specs.Index.{Index}
use Rattle.prepare_commit.specs.declared.items.ChainedItem.{ChainedItem}
use Rattle.prepare_commit.specs.Content.{Content}
use Rattle.prepare_commit.specs.Layout.{held_in, chain_lists, together, item_chains, entries_of, HoldsTogether}
use Rattle.prepare_commit.specs.Marks.{marks_of}
use Rattle.prepare_commit.specs.Remembered.{Remembers, in_either}
use Rattle.prepare_commit.specs.Begun.{BegunBase, IsKeptSince}

-- what a cell has beside the block
pub record Parts : Type 0 where
  pub room : Room
  pub chains : Heads
  pub items : List ChainedItem
  pub index : Index
  pub marks : List ℕ
  -- the chains that are noted as changed since the last collection, and how many versions that one kept
  pub changed : List Bool
  pub last : Option ℕ
  -- those that changed before, since the last collection that kept the least, and how many that one kept
  pub left : List Bool
  pub least : Option ℕ
  -- the parts of the last base, where in them the items lie, and the chains that are noted as changed since
  pub begun : BegunBase
  pub since : List Bool

-- what the cell holds
abbrev pub content_in : Cells → Parts → Content
content_in block cell = record {
  room = cell.room;
  versions = together (item_chains cell.items (chain_lists block cell.chains));
  entries = entries_of cell.items;
  tags = cell.index.tags;
  marks = marks_of cell.marks;
}

-- the cell beside another base, and the chains that changed since
abbrev pub begun_with : Parts → BegunBase → List Bool → Parts
begun_with cell begun since = record {
  room = cell.room;
  chains = cell.chains;
  items = cell.items;
  index = cell.index;
  marks = cell.marks;
  changed = cell.changed;
  last = cell.last;
  left = cell.left;
  least = cell.least;
  begun = begun;
  since = since;
}

-- the chains stand in the block, which has no other version of their tenant, and their list names these versions
pub record AreIn (block : Cells) (chains : Heads) : Type 0 where
  pub stands : HoldsChains block chains
  pub listed : Lists block chains

-- the cell's versions lie in the block, which has no other version of its tenant; an item whose chain is not noted as
-- changed has nothing that another collection like the last would give up, and no floor that it would raise; and one
-- whose chain did not change since a base was made is as it was then
pub record LiesIn (block : Cells) (cell : Parts) : Type 0 where
  pub versions : AreIn block cell.chains
  pub remembers : Remembers cell.last cell.changed cell.items (chain_lists block cell.chains)
  pub remembers_least : Remembers cell.least (in_either cell.left cell.changed) cell.items (chain_lists block cell.chains)
  pub since : IsKeptSince cell.begun cell.since cell.items (chain_lists block cell.chains)
  pub holds : HoldsTogether cell.room.slots cell.room.items cell.items (held_in block cell.chains) cell.index
