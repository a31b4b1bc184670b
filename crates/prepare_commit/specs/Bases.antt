-- What a base holds: what some log leaves, in an order of its own.
use Rattle.std.specs.Prelude.{◌≡◌, ◌<◌, ◌≤◌, ◌⊎◌, ℕ, List, [], ◌∷◌, length, map, count_by, replicate, All, IsSome, Option, None}
use Rattle.std.specs.Prelude.{slice_index_or}
use Rattle.std.specs.Ordering.{nat_cmp}
use Rattle.std.specs.FinMap.{get, len, empty as no_tags}
use Rattle.std.specs.declared.cmp.Ordering.TheVariants.{Less}
use Rattle.stamps.specs.Key.{key_cmp}
use Rattle.plain_store.specs.Log.{Log}
use Rattle.plain_store.specs.Marks.{mark, marked as marked_clients}
use Rattle.plain_store.specs.Replies.{IsSound}
use Rattle.plain_store.specs.Words.{Key, Tag, Room, Stamp}
use Rattle.stamps.specs.Record.{Record}
use Rattle.version_chain.specs.Chain.{Cells, is_of_tenant}
use Rattle.version_chain.specs.declared.version.Version.{Version}
use Rattle.secondary_index.specs.Ordered.{IsInOrder}
use Rattle.prepare_commit.specs.declared.items.KnownItem.{KnownItem}
use Rattle.prepare_commit.specs.InBlock.{Parts, AreIn, LiesIn, content_in}
use Rattle.prepare_commit.specs.Lists.{SameMembers}
use Rattle.prepare_commit.specs.Marks.{mark_row, marks_of, if_marked}
use Rattle.prepare_commit.specs.declared.fill.StampedPlace.{StampedPlace}
use Rattle.prepare_commit.specs.declared.items.ChainedItem.{ChainedItem}
use Rattle.prepare_commit.specs.Content.{entry_at, IsLatest}
use Rattle.prepare_commit.specs.Layout.{held_in, committed_version}
use Rattle.prepare_commit.specs.Serving.{StandsFor, marked_versions, floored, tag_in}

-- the room, and the versions, the entries and the marks without the chains and the index
pub record Frozen : Type 0 where
  pub room : Room
  pub versions : List Version
  pub entries : List KnownItem
  pub marks : List Stamp

-- the base holds just what the log leaves
pub record Leaves (base : Frozen) (log : Log) : Type 0 where
  pub versions : SameMembers base.versions (marked_versions log)
  pub entries : SameMembers base.entries (floored log)
  pub marks : (client : ℕ) → get (marks_of base.marks) client ≡ if_marked (mark log client)
  pub clients : len (marks_of base.marks) ≡ length (marked_clients log)

-- a log of this room leaves it
abbrev pub HasLog : Frozen → Type 0
HasLog base = (log : Log) × IsSound base.room log × Leaves base log

-- R holds of each element and each later one
abbrev pub AreOrdered : {X : Type 0} → (X → X → Type 0) → List X → Type 0
AreOrdered R [] = Unit {0}
AreOrdered R (x ∷ xs) = All (R x) xs × AreOrdered R xs

-- keys ascend, and the stamps of one key fall
abbrev pub IsBefore : Version → Version → Type 0
IsBefore v w =
    (key_cmp v.prepared.key w.prepared.key ≡ Less)
    ⊎ ((v.prepared.key ≡ w.prepared.key) × (w.prepared.stamp < v.prepared.stamp))

abbrev pub IsEntryBefore : KnownItem → KnownItem → Type 0
IsEntryBefore e f = key_cmp e.key f.key ≡ Less

-- some log leaves it, it is within its room, and its lists are in order, so what one log leaves is one base alone
pub record IsBase (base : Frozen) : Type 0 where
  pub has_log : HasLog base
  pub slots : length base.versions ≤ base.room.slots
  pub items : length base.entries ≤ base.room.items
  pub clients : length base.marks ≤ base.room.clients
  pub versions_ordered : AreOrdered IsBefore base.versions
  pub entries_ordered : AreOrdered IsEntryBefore base.entries
  pub marks_ordered : IsInOrder nat_cmp mark_row base.marks

-- nothing, with this room
abbrev pub empty_base : Room → Frozen
empty_base room = record { room = room; versions = []; entries = []; marks = [] }

-- what a cell holds, as a base
abbrev pub base_of : Cells → Parts → Frozen
base_of block cell = record {
  room = cell.room;
  versions = (content_in block cell).versions;
  entries = (content_in block cell).entries;
  marks = cell.marks;
}

-- the cell stands for some log of its room
abbrev pub HasStood : Cells → Parts → Type 0
HasStood block cell = (log : Log) × IsSound cell.room log × StandsFor (content_in block cell) log

-- ---- opening a cell at a base

-- the item has an entry
abbrev pub HasEntry : List KnownItem → Key → Type 0
HasEntry entries key = IsSome (entry_at key entries)

-- each item has the chain of its place
abbrev pub AreNumbered : List ChainedItem → Type 0
AreNumbered items = (place : ℕ) (d : ChainedItem) → place < length items → (slice_index_or items place d).chain ≡ place

-- the places name each of the versions once
pub record NameEach (places : List StampedPlace) (versions : List Version) : Type 0 where
  pub within : All (λ (p : StampedPlace). p.place < length versions) places
  pub each : (d : Version) → SameMembers (map (λ (p : StampedPlace). slice_index_or versions p.place d) places) versions

-- the cell has this room and holds nothing
pub record IsNew (room : Room) (cell : Parts) : Type 0 where
  pub room_is : cell.room ≡ room
  pub share : cell.chains.share ≡ room.slots
  pub used : cell.chains.used ≡ 0
  pub lies : (block : Cells) → count_by (is_of_tenant cell.chains.tenant) block ≡ 0
      → AreIn block cell.chains
  pub empty : (block : Cells)
      → held_in block cell.chains ≡ record { share = room.slots; used = 0; chains = replicate room.items [] }
  pub no_items : cell.items ≡ []
  pub index : cell.index ≡ record { room = room.items; tags = no_tags }
  pub no_marks : cell.marks ≡ []
  pub not_collected : cell.last ≡ None
  pub none_collected : cell.least ≡ None

-- the cell, in the block, holds what the base does, has its room, and stands for every log that the base stands for
pub record IsOpenedAt (base : Frozen) (block : Cells) (cell : Parts) : Type 0 where
  pub room : cell.room ≡ base.room
  pub used : cell.chains.used ≡ length base.versions
  pub lies : LiesIn block cell
  pub holds : base_of block cell ≡ base
  pub stands : (log : Log) → Leaves base log → StandsFor (content_in block cell) log

-- the tag is that of the item's latest committed version, empty where none is committed
abbrev pub IsTagOf : Key → List Version → Tag → Type 0
IsTagOf key versions tag =
    (latest : Option Record) × IsLatest key versions (committed_version latest) × (tag ≡ tag_in latest)
