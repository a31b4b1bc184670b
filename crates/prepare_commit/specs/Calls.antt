-- What the calls on a cell and on its chains ask for, and what they leave.
use Rattle.std.specs.Prelude.{◌≡◌, ◌==◌, ℕ, ◌+◌, ◌<◌, ◌≤◌, ◌^◌, Bool, List, All, Option, length, map, count_by}
use Rattle.lists.specs.Listing.{Listing}
use Rattle.plain_store.specs.declared.calls.Call.{Call}
use Rattle.plain_store.specs.declared.calls.Reply.{Reply}
use Rattle.secondary_index.specs.Index.{Index}
use Rattle.version_chain.specs.declared.version.Version.{Version}
use Rattle.version_chain.specs.Chain.{Cells, HoldsChains, HasShare}
use Rattle.version_chain.specs.Sharing.{ChangesOwn}
use Rattle.prepare_commit.specs.declared.items.ChainedItem.{ChainedItem}
use Rattle.prepare_commit.specs.declared.last_base.LastBase.{LastBase}
use Rattle.prepare_commit.specs.declared.versions.Versions.{Versions}
use Rattle.prepare_commit.specs.Begun.{IsKeptSince}
use Rattle.prepare_commit.specs.Content.{KnowsItems, IsMoved}
use Rattle.prepare_commit.specs.InBlock.{Parts, AreIn, LiesIn, content_in}
use Rattle.prepare_commit.specs.Layout.{Chained, held_in, chain_lists, chain_at, together, item_chains, entries_of, HaveAll, raised_item, kept_chain}
use Rattle.prepare_commit.specs.Remembered.{AreNotedWhere, Remembers, in_either, raised_where, kept_where}
use Rattle.prepare_commit.specs.Serving.{Serves}
use Rattle.prepare_commit.specs.Spots.{begun_by}

-- the versions of each chain, and of one
abbrev pub lists_of : Cells → Versions → List (List Version)
lists_of block versions = chain_lists block versions.chains

abbrev pub versions_at : Cells → Versions → ℕ → List Version
versions_at block versions chain = chain_at (chain_lists block versions.chains) chain

-- ---- the chains

-- the chains lie in the block, of which as many cells are free as their tenant may still use
pub record HaveShare (block : Cells) (versions : Versions) : Type 0 where
  pub lies : AreIn block versions.chains
  pub share : HasShare block versions.chains

-- the chains lie in the block still, and nothing of another tenant changed
pub record ChangesVersions (old_block : Cells) (old : Versions) (new_block : Cells) (new : Versions) : Type 0 where
  pub lies : AreIn new_block new.chains
  pub own : ChangesOwn old_block new_block old.chains new.chains

-- of as many chains as before, what was noted still is, and each was noted that holds something else now
pub record NotesChanged (old new : List Bool) (chains after : List (List Version)) : Type 0 where
  pub long : length new ≡ length old
  pub noted : AreNotedWhere old new chains after

-- the index knows items of the chains alone, and has room for each
abbrev pub KnowsHeld : Index → Chained → Type 0
KnowsHeld index held =
    (items : List ChainedItem) × HaveAll items held × KnowsItems index.tags (entries_of items) × (length items ≤ index.room)

-- the index still knows items of the chains alone, each that has a version of the stamp under the tag of its latest committed
-- version, and each other one under the tag that it had
pub record MovesItems (stamp : ℕ) (held : Chained) (after : List (List Version)) (old new : Index) : Type 0 where
  pub room : new.room ≡ old.room
  pub keys : (items : List ChainedItem) → HaveAll items held → KnowsItems old.tags (entries_of items)
      → KnowsItems new.tags (entries_of items)
  pub moved : (items : List ChainedItem) → HaveAll items held
      → (let all = together (item_chains items after) in IsMoved stamp all all old.tags new.tags)

-- so many versions of the stamp are held
abbrev pub HasAt : ℕ → Chained → ℕ → Type 0
HasAt stamp held count =
    (items : List ChainedItem) → HaveAll items held
    → count ≡ count_by (λ (v : Version). v.prepared.stamp == stamp) (together (item_chains items held.chains))

-- ---- a collection

-- the chains lie in the block, and those of the items have all versions
pub record HoldItems (block : Cells) (versions : Versions) (items : List ChainedItem) : Type 0 where
  pub lies : AreIn block versions.chains
  pub have : HaveAll items (held_in block versions.chains)

-- each chain was noted that another collection like the last one may change, or like the one that kept the least
pub record RemembersBoth
    (last : Option ℕ) (changed : List Bool) (fewest : Option ℕ) (left : List Bool)
    (items : List ChainedItem) (chains : List (List Version)) : Type 0 where
  pub remembers : Remembers last changed items chains
  pub least : Remembers fewest (in_either left changed) items chains

-- what a collection finds: items with their versions, and what earlier collections noted
pub record CanCollect
    (block : Cells) (versions : Versions) (items : List ChainedItem)
    (last : Option ℕ) (changed : List Bool) (fewest : Option ℕ) (left : List Bool) : Type 0 where
  pub held : HoldItems block versions items
  pub few : versions.chains.used < 2 ^ 32
  pub long : length changed ≡ length (lists_of block versions)
  pub as_long : length left ≡ length changed
  pub noted : RemembersBoth last changed fewest left items (lists_of block versions)

-- so many versions were freed; nothing of another tenant changed
pub record GivesUpOf
    (freed : ℕ) (old_block : Cells) (old : Versions) (old_items : Listing ChainedItem)
    (new_block : Cells) (new : Versions) (new_items : Listing ChainedItem) : Type 0 where
  pub held : HoldItems new_block new new_items.items
  pub own : ChangesOwn old_block new_block old.chains new.chains
  pub room : new_items.room ≡ old_items.room
  pub fewer : new.chains.used + freed ≡ old.chains.used

-- so many were, and this is what became of each item and of its versions
pub record IsCutTo
    (raise : ChainedItem → ChainedItem) (keeps : ChainedItem → List Version)
    (freed : ℕ) (old_block : Cells) (old : Versions) (old_items : Listing ChainedItem)
    (new_block : Cells) (new : Versions) (new_items : Listing ChainedItem) : Type 0 where
  pub left : GivesUpOf freed old_block old old_items new_block new new_items
  pub raised : new_items.items ≡ map raise old_items.items
  pub kept : item_chains new_items.items (lists_of new_block new) ≡ map keeps old_items.items

-- all items were collected, or that of one chain, of which so many committed versions stay
abbrev pub IsCollected : ℕ → ℕ → Cells → Versions → Listing ChainedItem → Cells → Versions → Listing ChainedItem → Type 0
IsCollected keep freed block versions =
    IsCutTo (raised_item keep (lists_of block versions)) (kept_chain keep (lists_of block versions)) freed block versions

abbrev pub IsCollectedAt : ℕ → ℕ → ℕ → Cells → Versions → Listing ChainedItem → Cells → Versions → Listing ChainedItem → Type 0
IsCollectedAt chain keep freed block versions =
    IsCutTo (raised_where chain keep (lists_of block versions)) (kept_where chain keep (lists_of block versions)) freed block versions

-- ---- a base

-- the chains of the items stand in the block, and each item is as the last base has it whose chain was not noted since
pub record AreKeptSince (block : Cells) (versions : Versions) (items : List ChainedItem) (last : LastBase) : Type 0 where
  pub stands : HoldsChains block versions.chains
  pub known : All (λ (i : ChainedItem). i.chain < length (lists_of block versions)) items
  pub spots : length last.spots.items ≡ length (lists_of block versions)
  pub long : length last.since ≡ length (lists_of block versions)
  pub kept : IsKeptSince (begun_by last) last.since items (lists_of block versions)

-- ---- the cell

-- its versions lie in the block, of which as many cells are free as its tenant may still use
pub record LiesWithShare (block : Cells) (cell : Parts) : Type 0 where
  pub lies : LiesIn block cell
  pub share : HasShare block cell.chains

-- A call was served: whatever log the cell stood for, the reply is the one after it, and then it stands for the log with
-- the call and the reply. Its versions lie in the block, and nothing of another tenant changed.
pub record IsServed (old_block : Cells) (old : Parts) (new_block : Cells) (new : Parts) (call : Call) (reply : Reply) : Type 0 where
  pub lies : LiesIn new_block new
  pub own : ChangesOwn old_block new_block old.chains new.chains
  pub serves : Serves (content_in old_block old) (content_in new_block new) call reply

-- a call that changes nothing was served
abbrev pub IsAnswered : Cells → Parts → Call → Reply → Type 0
IsAnswered block cell = Serves (content_in block cell) (content_in block cell)

-- the block is as it was, and the cell holds what it held
abbrev pub HoldsTheSame : Cells → Parts → Cells → Parts → Type 0
HoldsTheSame old_block old new_block new =
    (new_block ≡ old_block) × (content_in new_block new ≡ content_in old_block old)
