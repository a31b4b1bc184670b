-- How the chains of a tenant lie in the cells of an arena.
use Rattle.std.specs.Prelude.{◌≡◌, ◌≢◌, ℕ, zero, suc, ◌+◌, ◌==◌, ◌||◌, ◌<◌, ◌≤◌, Bool, true, false, if◌then◌else◌}
use Rattle.std.specs.Prelude.{List, [], ◌∷◌, ◌++◌, length, map, filter, Option, Some, None, count_by, sum_by}
use Rattle.std.specs.Prelude.{nat_lt, slice_get, slice_set, ◌&&◌, not}
use Rattle.stamps.specs.Record.{Record}
use Rattle.version_arena.specs.Arena.{entry, live_count, next_beside}
use Rattle.version_chain.specs.Node.{Node}
use Rattle.version_chain.specs.declared.version.Version.{Version}
use Rattle.version_chain.specs.Heads.{Heads, head, latest_slot}

-- the cells of an arena of versions
abbrev pub Cells : Type 0
Cells = List (Option (Node × Option ℕ))

-- the versions from a slot on, at most so many
abbrev pub follow_entry : Option (Node × Option ℕ) → (Option ℕ → List Version) → List Version
follow_entry None rest = []
follow_entry (Some cell) rest = cell.0.version ∷ rest cell.1

abbrev pub follow : Cells → ℕ → Option ℕ → List Version
follow cells zero from = []
follow cells (suc count) None = []
follow cells (suc count) (Some slot) = follow_entry (entry cells slot) (follow cells count)

-- the versions of a chain, the latest stamp first
abbrev pub chain_versions : Cells → Heads → ℕ → List Version
chain_versions cells chains chain = follow cells (length cells) (head chains chain)

-- the path from one slot to another goes through cells of this tenant's chain that hold these
-- versions
abbrev pub IsPath : Cells → ℕ → ℕ → Option ℕ → List Version → Option ℕ → Type 0
IsPath cells tenant chain from [] to = from ≡ to
IsPath cells tenant chain from (version ∷ rest) to =
    (slot : ℕ) × (next : Option ℕ) × (from ≡ Some slot)
    × (entry cells slot ≡ Some (record { tenant = tenant; chain = chain; version = version }, next))
    × IsPath cells tenant chain next rest to

-- each stamp is below the bound and below the one before it
abbrev pub FallsBelow : ℕ → List Version → Type 0
FallsBelow bound [] = Unit {0}
FallsBelow bound (version ∷ rest) = (version.prepared.stamp < bound) × FallsBelow version.prepared.stamp rest

-- each stamp is below the one before it
abbrev pub Falls : List Version → Type 0
Falls [] = Unit {0}
Falls (version ∷ rest) = FallsBelow version.prepared.stamp rest

-- the committed records, the latest stamp first
abbrev pub committed_records : List Version → List Record
committed_records versions =
    map (λ (version : Version). version.prepared) (filter (λ (version : Version). version.committed) versions)

-- the committed record of the greatest stamp in a chain
abbrev pub latest_record : Cells → Heads → ℕ → Option Record
latest_record cells chains chain = slice_get (committed_records (chain_versions cells chains chain)) 0

-- the cell that is kept of a chain with these versions holds the latest committed one; where none is committed, none is
-- kept
abbrev pub KeepsLatest : Cells → ℕ → ℕ → List Version → Option ℕ → Type 0
KeepsLatest cells tenant chain versions None = slice_get (committed_records versions) 0 ≡ None
KeepsLatest cells tenant chain versions (Some slot) =
    (version : Version) × (next : Option ℕ)
    × (entry cells slot ≡ Some (record { tenant = tenant; chain = chain; version = version }, next))
    × (slice_get (committed_records versions) 0 ≡ Some version.prepared)

-- a cell of the tenant
abbrev pub is_of_tenant : ℕ → Option (Node × Option ℕ) → Bool
is_of_tenant tenant None = false
is_of_tenant tenant (Some cell) = cell.0.tenant == tenant

-- the cells hold the chains of the tenant, and no other version of it: each of its live slots stands
-- in one chain, once; and of each chain the latest committed version is known
pub record HoldsChains (cells : Cells) (chains : Heads) : Type 0 where
  pub chained : (chain : ℕ) → chain < length chains.heads
      → IsPath cells chains.tenant chain (head chains chain) (chain_versions cells chains chain) None
  pub falling : (chain : ℕ) → chain < length chains.heads → Falls (chain_versions cells chains chain)
  pub counted : chains.used ≡ sum_by (λ from. length (follow cells (length cells) from)) chains.heads
  pub owned : count_by (is_of_tenant chains.tenant) cells ≡ chains.used
  pub fits : chains.used ≤ chains.share
  pub long : length chains.latest ≡ length chains.heads
  pub latest : (chain : ℕ) → chain < length chains.heads
      → KeepsLatest cells chains.tenant chain (chain_versions cells chains chain) (latest_slot chains chain)

-- as many cells are free as the tenant may still use
abbrev pub HasShare : Cells → Heads → Type 0
HasShare cells chains = chains.share + live_count cells ≤ length cells + chains.used

-- the record at a stamp
abbrev pub at_stamp : List Version → ℕ → Option Record
at_stamp [] stamp = None
at_stamp (version ∷ rest) stamp = if version.prepared.stamp == stamp then Some version.prepared else at_stamp rest stamp

-- a version as its record and its mark
abbrev pub lent_version : Option (Record × Bool) → Option Version
lent_version None = None
lent_version (Some lent) = Some (record { prepared = lent.0; committed = lent.1 })

-- the record of the greatest stamp
abbrev pub first_record : List Version → Option Record
first_record [] = None
first_record (version ∷ rest) = Some version.prepared

-- the stamp of a record, or that of the initial version
abbrev pub stamp_of : Option Record → ℕ
stamp_of None = 0
stamp_of (Some found) = found.stamp

-- the second list is the first with the version put between two of its own
pub record IsInserted (old new : List Version) (version : Version) : Type 0 where
  pub above : List Version
  pub below : List Version
  pub old_is : old ≡ above ++ below
  pub new_is : new ≡ above ++ version ∷ below

-- the version, which is committed if it has this stamp
abbrev pub marked_by : ℕ → Version → Version
marked_by stamp version =
    record { prepared = version.prepared; committed = (version.prepared.stamp == stamp) || version.committed }

-- the versions that are not below the stamp
abbrev pub not_below : ℕ → List Version → List Version
not_below floor [] = []
not_below floor (version ∷ rest) =
    if nat_lt version.prepared.stamp floor then not_below floor rest else version ∷ not_below floor rest

-- a version of this stamp that is not committed
abbrev pub is_open_at : ℕ → Version → Bool
is_open_at stamp version = (version.prepared.stamp == stamp) && not version.committed

-- the versions but that of the stamp, which stays where it is committed
abbrev pub without_open : ℕ → List Version → List Version
without_open stamp versions = filter (λ (version : Version). not (is_open_at stamp version)) versions

-- the cell, where it is one of the tenant's
abbrev pub cell_of : ℕ → Option (Node × Option ℕ) → Option (Node × Option ℕ)
cell_of tenant None = None
cell_of tenant (Some cell) = if cell.0.tenant == tenant then Some cell else None

-- each other tenant has the cells that it had, and no more
pub record OthersKept (old new : Cells) (tenant : ℕ) : Type 0 where
  pub long : length new ≡ length old
  pub cells : (other slot : ℕ) → other ≢ tenant → cell_of other (entry new slot) ≡ cell_of other (entry old slot)

-- the other chains keep their versions
abbrev pub OtherChainsKept : Cells → Heads → Cells → Heads → ℕ → Type 0
OtherChainsKept old_cells old new_cells new chain =
    (other : ℕ) → other < length old.heads → other ≢ chain
    → chain_versions new_cells new other ≡ chain_versions old_cells old other

-- the tenant, its share and the number of its chains
pub record SameShape (old new : Heads) : Type 0 where
  pub tenant : new.tenant ≡ old.tenant
  pub share : new.share ≡ old.share
  pub long : length new.heads ≡ length old.heads

-- the version in a cell is committed now, and no other cell changes
pub record IsMarkedAt (old new : Cells) (slot : ℕ) : Type 0 where
  pub node : Node
  pub held : entry old slot ≡ Some (node, next_beside old slot)
  pub new_is : new ≡ slice_set old slot (Some (
    record {
      tenant = node.tenant;
      chain = node.chain;
      version = record { prepared = node.version.prepared; committed = true };
    },
    next_beside old slot,
  ))
