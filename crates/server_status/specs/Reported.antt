-- What is reported of a running server.
use Rattle.std.specs.Prelude.{◌≡◌, ◌≢◌, ◌+◌, ◌-◌, ◌^◌, ◌++◌, ◌↔◌, ◌<◌, ◌≤◌, ℕ, zero, suc, min}
use Rattle.std.specs.Prelude.{List, [], ◌∷◌, length, Option, Some, None, IsSomeAnd, IsTrue}
use Rattle.std.specs.Borrow.{Bor}
use mathlib.Core.List.{IsPrefix}
use Rattle.std.specs.Global.{Vec}
use Rattle.std.specs.Option.{option_map}
use Rattle.stamps.specs.declared.bounds.Limits.{Limits}
use Rattle.shard.specs.UsedAt.{AreUsagesAt}
use Rattle.shard.specs.declared.usages.TenantUsage.{TenantUsage}
use Rattle.server_metrics.specs.TimesText.{AreRising}
use Rattle.server_metrics.specs.declared.metrics.ClientRow.{ClientRow}
use Rattle.server_metrics.specs.declared.metrics.ServerReadings.{ServerReadings}
use Rattle.server_metrics.specs.declared.metrics.RefusalRow.{RefusalRow}
use Rattle.server_metrics.specs.declared.metrics.Row.{Row}
use Rattle.server_sessions.specs.Ports.{most_of}
use Rattle.server_verdicts.specs.Rows.{at_place}
use Rattle.server_verdicts.specs.declared.epochs.checked.CheckProgress.{CheckProgress}
use Rattle.server_verdicts.specs.declared.epochs.checked.Standing.TheVariants.{Right}
use Rattle.history.specs.declared.entry.HistoryEntry.{HistoryEntry}
use Rattle.history.specs.declared.rule.Naming.{Ghosts}
use Rattle.server_status.specs.declared.reading.Watched.{Watched}

-- ---- the rows of a partition

-- the row has the numbers of what a tenant uses
pub record IsRowOf (used : TenantUsage) (row : Row) : Type 0 where
  pub items : row.items ≡ used.usage.holdings.items
  pub versions : row.versions ≡ used.usage.holdings.versions
  pub marks : row.marks ≡ used.usage.holdings.marks
  pub calls : row.calls ≡ used.usage.served
  pub collections : row.collections ≡ used.collections
  pub cut : row.cut ≡ used.usage.epoch - 1

-- it is of the tenant of this name at this partition, has these limits, and says how many of the epochs that were cut are checked, if any are
pub record IsRowAt (at : ℕ) (name : List ℕ) (limits : Limits) (progress : Option CheckProgress) (row : Row) : Type 0 where
  pub tenant : row.tenant.now ≡ name
  pub partition : row.partition ≡ at
  pub items : row.items_limit ≡ limits.items
  pub versions : row.versions_limit ≡ limits.slots
  pub marks : row.marks_limit ≡ limits.clients
  pub checked : row.checked ≡ option_map (λ (its : CheckProgress). min its.checked row.cut) progress
  pub wrong : IsTrue row.is_wrong ↔ IsSomeAnd progress (λ (its : CheckProgress). its.standing ≢ Right)

-- a row of each usage, in their order: that of the tenant of the next name, limits and checks
abbrev pub AreRowsOf : ℕ → List (List ℕ) → List Limits → List (Option CheckProgress) → List TenantUsage → List Row → Type 0
AreRowsOf partition names limits checks [] [] = Unit {0}
AreRowsOf partition (name ∷ names) (its ∷ limits) (progress ∷ checks) (used ∷ usages) (row ∷ rows) =
    IsRowOf used row × IsRowAt partition name its progress row × AreRowsOf partition names limits checks usages rows
AreRowsOf _ _ _ _ _ _ = ⊥

-- rows of these usages were put behind those that were there
abbrev pub AreRowsBehind : ℕ → List (List ℕ) → List Limits → List (Option CheckProgress) → List TenantUsage → List Row
    → List Row → Type 0
AreRowsBehind partition names limits checks usages old new =
    (rows : List Row) × (new ≡ old ++ rows) × AreRowsOf partition names limits checks usages rows

-- what is known of a tenant's journal at a partition, where epochs are checked and it is there
abbrev pub known_in : {C : Type 0} → Option (Bor (Vec (Vec C))) → ℕ → ℕ → Option C
known_in None partition tenant = None
known_in (Some known) partition tenant = at_place known.now.items partition tenant

-- how far the checks of this journal have come, as it told; none where there is none
abbrev pub IsCheckOf : {C : Type 0} → (C → CheckProgress → Type 0) → Option C → Option CheckProgress → Type 0
IsCheckOf HasTold (Some its) (Some progress) = HasTold its progress
IsCheckOf HasTold None None = Unit {0}
IsCheckOf _ _ _ = ⊥

-- so of the journal of each tenant at a partition, from this tenant on
abbrev pub AreChecksFrom : {J C : Type 0} {naming : Ghosts J} → (C → CheckProgress → Type 0) → Watched J C naming → ℕ → ℕ → List (Option CheckProgress) → Type 0
AreChecksFrom HasTold watched partition tenant [] = Unit {0}
AreChecksFrom HasTold watched partition tenant (check ∷ checks) =
    IsCheckOf HasTold (known_in watched.known partition tenant) check × AreChecksFrom HasTold watched partition (tenant + 1) checks

-- so of each tenant that has a name
abbrev pub AreChecksAt : {J C : Type 0} {naming : Ghosts J} → (C → CheckProgress → Type 0) → Watched J C naming → ℕ → List (Option CheckProgress) → Type 0
AreChecksAt HasTold watched partition checks =
    (length checks ≡ min (length watched.names.now) (2 ^ 32 - 1)) × AreChecksFrom HasTold watched partition 0 checks

-- Rows were put behind those that were there, one of each tenant of the store. Their numbers are those that the cells of the partition had at
-- one moment, when all calls were served there that the history has of it, as it was seen then; and their checks those that its journals told.
abbrev pub AreRowsAt : {J C : Type 0} {naming : Ghosts J} → (C → CheckProgress → Type 0) → Watched J C naming → List HistoryEntry → ℕ → List Row → List Row → Type 0
AreRowsAt HasTold watched log partition old new =
    (usages : List TenantUsage) × (checks : List (Option CheckProgress)) × AreUsagesAt log watched.hub.now.parts partition usages
    × (length usages ≡ length watched.hub.now.limits)
    × AreChecksAt HasTold watched partition checks
    × AreRowsBehind partition watched.names.now watched.hub.now.limits checks usages old new

-- so for each partition before this one, one after another: the history that was seen at first goes on at each, up to what was seen at the last
abbrev pub AreRowsBefore : {J C : Type 0} {naming : Ghosts J} → (C → CheckProgress → Type 0) → Watched J C naming → (first last : List HistoryEntry)
    → ℕ → List Row → Type 0
AreRowsBefore HasTold watched first last zero rows = (rows ≡ []) × (last ≡ first)
AreRowsBefore HasTold watched first last (suc partition) rows =
    (before : List Row) × (earlier : List HistoryEntry) × AreRowsBefore HasTold watched first earlier partition before
    × IsPrefix earlier last × AreRowsAt HasTold watched last partition before rows

-- ---- the tenants' clients and the refusals

-- the rows are of refusals with rising numbers, from the first of these to before the second, none of them 12, each of one line or more
abbrev pub AreRefusalRows : ℕ → ℕ → List RefusalRow → Type 0
AreRefusalRows from below [] = from ≤ below
AreRefusalRows from below (row ∷ rows) = (from ≤ row.number) × (row.number ≢ 12) × (0 < row.lines) × AreRefusalRows (row.number + 1) below rows

-- the row is of the tenant of this name, of no more clients than its limits say, and of refusals that these were answered
pub record IsClientRow (name : List ℕ) (limits : Limits) (row : ClientRow) : Type 0 where
  pub tenant : row.tenant.now ≡ name
  pub limit : row.limit ≡ limits.clients
  pub few : row.clients ≤ limits.clients
  pub refusals : AreRefusalRows 0 43 row.refusals.items

-- a row of each tenant that has a name and limits, in their order
abbrev pub AreClientRows : List (List ℕ) → List Limits → List ClientRow → Type 0
AreClientRows names limits [] = Unit {0}
AreClientRows (name ∷ names) (its ∷ limits) (row ∷ rows) = IsClientRow name its row × AreClientRows names limits rows
AreClientRows _ _ _ = ⊥

-- ---- all that is read

-- What was read of this server, behind what was seen of its history at first: where it is whole, a row of each tenant at each partition; and rows
-- of the clients, of the refusals, and of the times that lines took. What a journal has told is said by its trait.
pub record IsReadOf {J C : Type 0} {naming : Ghosts J} (HasTold : C → CheckProgress → Type 0) (watched : Watched J C naming) (first last : List HistoryEntry)
    (readings : ServerReadings) : Type 0 where
  pub rows : IsTrue readings.is_whole → AreRowsBefore HasTold watched first last watched.hub.now.parts readings.rows.items
  pub clients : AreClientRows watched.names.now watched.hub.now.limits readings.clients.items
  pub all_clients : length readings.clients.items ≡ min (min (length watched.names.now) (2 ^ 32 - 1)) (length watched.hub.now.limits)
  pub refusals : AreRefusalRows 0 43 readings.refusals.items
  pub times : AreRising 0 readings.times.rows.items readings.times.lines
  pub most : readings.most ≡ most_of watched.server.now
  pub started : readings.started ≡ watched.started
  pub version : readings.version.now ≡ watched.version.now
