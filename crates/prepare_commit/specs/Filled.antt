-- What is put into the parts of a cell that holds nothing.
use Rattle.std.specs.Prelude.{◌≡◌, ◌≤◌, ℕ, List, All, IsTrue, length}
use Rattle.std.specs.FinMap.{contains_key}
use Rattle.secondary_index.specs.Index.{Index, tag_of}
use Rattle.version_chain.specs.declared.version.Version.{Version}
use Rattle.version_chain.specs.Chain.{Cells}
use Rattle.prepare_commit.specs.declared.fill.StampedPlace.{StampedPlace}
use Rattle.prepare_commit.specs.declared.items.ChainedItem.{ChainedItem}
use Rattle.prepare_commit.specs.declared.items.KnownItem.{KnownItem}
use Rattle.prepare_commit.specs.declared.versions.Versions.{Versions}
use Rattle.prepare_commit.specs.Bases.{AreOrdered, IsBefore, NameEach, HasEntry, IsTagOf}
use Rattle.prepare_commit.specs.Calls.{lists_of, HaveShare, ChangesVersions}
use Rattle.prepare_commit.specs.Content.{KnowsItems}
use Rattle.prepare_commit.specs.Layout.{together, item_chains, entries_of, IsLaid}
use Rattle.prepare_commit.specs.Lists.{SameMembers}

-- each item has a chain of its own, in a block of which as many cells are free as the tenant may still use
pub record HaveChains (items : List ChainedItem) (block : Cells) (held : Versions) : Type 0 where
  pub share : HaveShare block held
  pub laid : IsLaid items (lists_of block held)
  pub within : length items ≤ length (lists_of block held)

-- the versions are of these items, no two of one item and stamp, and no more than there may be; the places name each once
pub record CanBePut
    (items : List ChainedItem) (held : Versions) (versions : List Version) (places : List StampedPlace) : Type 0 where
  pub fits : length versions ≤ held.chains.share
  pub ordered : AreOrdered IsBefore versions
  pub each : NameEach places versions
  pub known : All (λ (v : Version). HasEntry (entries_of items) v.prepared.key) versions

-- the items' chains have these versions, and so many are held; nothing of another tenant changed
pub record HavePut
    (items : List ChainedItem) (old_block : Cells) (old : Versions) (new_block : Cells) (new : Versions)
    (versions : List Version) (many : ℕ) : Type 0 where
  pub changed : ChangesVersions old_block old new_block new
  pub laid : IsLaid items (lists_of new_block new)
  pub members : SameMembers (together (item_chains items (lists_of new_block new))) versions
  pub used : new.chains.used ≡ many

-- the index knows these items alone, each under the tag of its latest committed version
pub record IndexesLatest (items : List ChainedItem) (block : Cells) (held : Versions) (old new : Index) : Type 0 where
  pub room : new.room ≡ old.room
  pub knows : KnowsItems new.tags (entries_of items)
  pub known : (key : List ℕ) → IsTrue (contains_key new.tags key) → HasEntry (entries_of items) key
  pub right : let all = together (item_chains items (lists_of block held)) in
      All (λ (e : KnownItem). IsTagOf e.key all (tag_of new.tags e.key)) (entries_of items)
