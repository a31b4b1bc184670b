-- What a tenant and a world stand for.
use Rattle.std.specs.Prelude.{◌≡◌, ℕ, ◌≤◌, List, [], ◌∷◌, All, length, slice_get, Some, Result, Ok, Err, MatchResult}
use Rattle.stamps.specs.Bounds.{IsParts}
use Rattle.plain_store.specs.declared.step.Act.{Act}
use Rattle.plain_store.specs.declared.answer.Answer.{Answer}
use Rattle.plain_store.specs.declared.step.Act.TheVariants.{Hello, Put, Get as GetAll, Find, Deliver, Lose, Retry, Stop}
use Rattle.plain_store.specs.declared.step.Act.TheVariants.{Collect as CollectAt, Keep as SetKeep}
use Rattle.stamps.specs.Limits.{max_parts}
use Rattle.plain_store.specs.Words.{Setup, setup_of, IsAct}
use Rattle.plain_store.specs.declared.step.Step.{Step}
use Rattle.plain_store.specs.History.{History, messages, lost_rows, keep_in, log_at}
use Rattle.plain_store.specs.Run.{run, moment_of, answer_to, sent_by}
use Rattle.plain_store.specs.Tenants.{only}
use Rattle.plain_store.specs.declared.out_of_memory.OutOfMemory.{OutOfMemory}
use Rattle.message_table.specs.Content.{StandsFor as TableStandsFor}
use Rattle.tenant_sessions.specs.Sessions.{IsRun}
use Rattle.tenant_sessions.specs.Sessions.{StandsFor as SessionsStandFor}
use Rattle.partition.specs.Shelf.{StandsFor as CellStandsFor, OtherCellsKept, room_of, tenants as seats}
use Rattle.partition.specs.declared.shelf.Shelf.{Shelf}
use Rattle.world.specs.declared.tenant.Tenant.{Tenant}
use Rattle.world.specs.Content.{WorldContent, parts_of}

-- the tenant's messages, its sessions and what its collections keep are those that its history leaves
pub record TenantStandsFor (setup : Setup) (history : History) (tenant : Tenant) : Type 0 where
  pub table : TableStandsFor tenant.table (messages history) (lost_rows history)
  pub sessions : SessionsStandFor setup history tenant.sessions
  pub keep : tenant.keep ≡ keep_in setup history

-- at each partition the cell of the tenant with this number stands for the partition's log
abbrev pub CellsStandFor : Setup → History → List Shelf → ℕ → Type 0
CellsStandFor setup history shelves number =
    (partition : ℕ) (shelf : Shelf) → slice_get shelves partition ≡ Some shelf
    → (room_of shelf number ≡ setup.room) × CellStandsFor shelf number (log_at setup history partition)

-- the history that its own steps leave the tenant with this number
abbrev pub history_of : Setup → ℕ → List Step → History
history_of setup number steps = run setup [] (only number steps)

-- Each tenant's messages, its sessions and its cell at each partition are those that its own steps leave,
-- and every step was a valid one.
pub record StandsFor (world : WorldContent) (steps : List Step) : Type 0 where
  pub valid : All (λ (step : Step). IsAct step.act) steps
  pub tenants : (number : ℕ) (tenant : Tenant) → slice_get world.tenants number ≡ Some tenant
      → (let setup = setup_of (parts_of world) tenant.limits in
      TenantStandsFor setup (history_of setup number steps) tenant)
  pub cells : (number : ℕ) (tenant : Tenant) → slice_get world.tenants number ≡ Some tenant
      → (let setup = setup_of (parts_of world) tenant.limits in
      CellsStandFor setup (history_of setup number steps) world.shelves number)

-- there are 1 to `max_parts` partitions, and each has a cell for each tenant
pub record IsWorld (shelves : List Shelf) (tenants : List Tenant) : Type 0 where
  pub parts : IsParts (length shelves)
  pub seats : All (λ (shelf : Shelf). seats shelf ≡ length tenants) shelves

-- ---- one tenant's step

-- the answer is the plain store's, the tenant stands for its history with this moment,
-- and no more messages are sent than there may be partitions
pub record TenantSteps (setup : Setup) (history : History) (act : Act) (answer : Answer) (new : Tenant) : Type 0 where
  pub told : answer ≡ answer_to setup history act
  pub stands : TenantStandsFor setup (moment_of setup history act ∷ history) new
  pub few : length (sent_by setup history act) ≤ max_parts

-- what a call answers that writes its answer into the caller's buffer
abbrev pub answered_in_place : Result (Unit {0}) OutOfMemory → Answer → Result Answer OutOfMemory
answered_in_place (Ok done) answer = Ok answer
answered_in_place (Err error) answer = Err error

-- whatever history the tenant stands for, it takes the act after it, or has no memory and still stands for it
abbrev pub TakesOrStays : Tenant → Tenant → Act → Result Answer OutOfMemory → Type 0
TakesOrStays old new act result =
    (setup : Setup) (history : History) → IsRun setup history → TenantStandsFor setup history old
    → MatchResult result (λ answer. TenantSteps setup history act answer new) (λ _. TenantStandsFor setup history new)

-- no other tenant's cell is touched, and each partition has as many cells as before
pub record OthersStay (old new : List Shelf) (number : ℕ) : Type 0 where
  pub parts : length new ≡ length old
  pub seats : (partition : ℕ) (before after : Shelf) → slice_get old partition ≡ Some before
      → slice_get new partition ≡ Some after → seats after ≡ seats before
  pub others : (partition : ℕ) (before after : Shelf) → slice_get old partition ≡ Some before
      → slice_get new partition ≡ Some after → OtherCellsKept before after number

-- whatever history the tenant and its cells stand for, they take the act after it,
-- or there was no memory and they still stand for it
abbrev pub ServesOrStays : Tenant → Tenant → List Shelf → List Shelf → ℕ → Act → Result Answer OutOfMemory → Type 0
ServesOrStays old new shelves shelves' number act result =
    (setup : Setup) (history : History) → setup ≡ setup_of (length shelves) old.limits → IsRun setup history
    → TenantStandsFor setup history old → CellsStandFor setup history shelves number
    → MatchResult result
    (λ answer. TenantSteps setup history act answer new
    × CellsStandFor setup (moment_of setup history act ∷ history) shelves' number)
    (λ _. TenantStandsFor setup history new × (shelves' ≡ shelves))

-- the act begins a transaction
abbrev pub IsBeginning : Act → Type 0
IsBeginning (Put client items) = Unit {0}
IsBeginning (GetAll client keys) = Unit {0}
IsBeginning (Find client tag) = Unit {0}
IsBeginning (Hello client base) = ⊥
IsBeginning (Deliver row) = ⊥
IsBeginning (Lose row) = ⊥
IsBeginning (Retry client) = ⊥
IsBeginning (Stop client) = ⊥
IsBeginning (CollectAt partition) = ⊥
IsBeginning (SetKeep keep) = ⊥
