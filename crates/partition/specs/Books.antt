-- What agrees in a book: each tenant's cell, its journal and its table of last numbers, and the counts of events.
use Rattle.std.specs.Prelude.{◌≡◌, ◌<◌, ◌≤◌, ◌+◌, ◌++◌, ◌^◌, ℕ, nat_eq}
use Rattle.std.specs.Prelude.{List, length, Option, Some, None, slice_get, All}
use Rattle.stamps.specs.Limits.{max_tenants}
use Rattle.indexmap.specs.IndexMap.{IndexMap, IsUnique, get}
use Rattle.plain_store.specs.Log.{Log}
use Rattle.prepare_commit.specs.Bases.{Leaves, HasLog}
use Rattle.partition.specs.Journals.{IsSoundFrom, room_for, log_after, last_number}
use Rattle.partition.specs.Shelf.{ShelfCells, tenants, room_of, StandsFor}
use Rattle.partition.specs.Accounts.{Account, seat_events, collector_events}

-- the table has the last number of each seat
pub record IsTable {S : Type 0} (table : IndexMap ℕ ℕ S) (account : Account) : Type 0 where
  pub unique : IsUnique nat_eq table
  pub lasts : (seat : ℕ) → get nat_eq table seat ≡ last_number seat account.events

-- the journal is sound from its base, the tenant's cell stands for every log that the base stands for, followed by the
-- journal's calls, and the table has the last number of each seat
pub record IsKept {S : Type 0} (cells : ShelfCells) (tenant : ℕ) (account : Account) (lasts : IndexMap ℕ ℕ S)
    : Type 0 where
  pub sound : IsSoundFrom account.start.base account.events
  pub room : room_of cells tenant ≡ room_for account.limits
  pub base_room : account.start.base.room ≡ room_for account.limits
  pub has_log : HasLog account.start.base
  pub stands : (log : Log) → Leaves account.start.base log → StandsFor cells tenant (log_after account.events ++ log)
  pub table : IsTable lasts account

-- a tenant's parts, where they are there
abbrev pub ArePaired : {S : Type 0} → ShelfCells → ℕ → Option Account → Option (IndexMap ℕ ℕ S) → Type 0
ArePaired cells tenant (Some account) (Some table) = IsKept cells tenant account table
ArePaired cells tenant None None = Unit {0}
ArePaired cells tenant account table = ⊥

-- as many places and epochs as a journal may have
abbrev pub IsCounted : Account → Type 0
IsCounted account = (account.start.before ≤ 2 ^ 62) × (account.start.number ≤ 2 ^ 62 + 1)

-- a tenant's cell, its journal and its table are so kept, and the journal has no more places and epochs than it may have
pub record IsKeptCounted {S : Type 0} (cells : ShelfCells) (tenant : ℕ) (account : Account) (lasts : IndexMap ℕ ℕ S)
    : Type 0 where
  pub kept : IsKept cells tenant account lasts
  pub counted : IsCounted account

-- a book: its cells, its accounts and its tables agree tenant by tenant, and its counts are those of the events
pub record IsBook {S : Type 0} (cells : ShelfCells) (accounts : List Account) (tables : List (IndexMap ℕ ℕ S))
    (of_seats of_collector : ℕ) : Type 0 where
  pub as_many : tenants cells ≡ length accounts
  pub few : length accounts ≤ max_tenants
  pub short : (tenant : ℕ) (account : Account) → slice_get accounts tenant ≡ Some account
      → length account.events < 2 ^ 63
  pub counted : (tenant : ℕ) (account : Account) → slice_get accounts tenant ≡ Some account → IsCounted account
  pub kept : (tenant : ℕ) → ArePaired cells tenant (slice_get accounts tenant) (slice_get tables tenant)
  pub seats : of_seats ≡ seat_events accounts
  pub collector : of_collector ≡ collector_events accounts

-- tables of no number
abbrev pub AreNew : {S : Type 0} → List (IndexMap ℕ ℕ S) → Type 0
AreNew tables = All (λ table. IsUnique nat_eq table × ((seat : ℕ) → get nat_eq table seat ≡ None)) tables
