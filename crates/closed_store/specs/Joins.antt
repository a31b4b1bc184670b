-- What holds of epochs that are put before the rest of a journal.
use Rattle.std.specs.Prelude.{◌≡◌, ◌+◌, ℕ, List, [], ◌∷◌, ◌++◌, ◌&&◌, nat_eq, take, map, length}
use Rattle.std.specs.Prelude.{Option, Some, None, IsSome, All, IsPermutation, slice_get, ◌⊎◌, Result, IfOk, IfErr, IsErrOf}
use Rattle.std.specs.List.{filter}
use Rattle.std.specs.Global.{Vec}
use Rattle.stamps.specs.declared.bounds.Limits.{Limits}
use Rattle.plain_store.specs.Log.{Log}
use Rattle.plain_store.specs.Replies.{reply_after}
use Rattle.plain_store.specs.Words.{Room}
use Rattle.prepare_commit.specs.Bases.{Leaves, empty_base}
use Rattle.partition.specs.Events.{Event}
use Rattle.partition.specs.declared.journal.Epoch.{Epoch}
use Rattle.partition.specs.declared.journal.Journal.{Journal}
use Rattle.closed_store.specs.declared.join.joining.JoinFault.{JoinFault}
use Rattle.closed_store.specs.declared.join.joining.JoinFault.TheVariants.{Base, OutOfMemory}
use Rattle.partition.specs.Journals.{IsEnd, IsLate, IsSoundUnder, log_after, room_for}
use Rattle.partition.specs.Accounts.{Account, EpochStart, account_of, new_account, epoch_start_of}

-- the events of epochs, one epoch after the other
abbrev pub events_of : List Epoch → List Event
events_of [] = []
events_of (epoch ∷ epochs) = epoch.events.items ++ events_of epochs

-- each reply is the one after the calls before it, on a cell that began with nothing; some came before these events
abbrev pub AreRightReplies : Room → List Event → List Event → Type 0
AreRightReplies room before events =
    (place : ℕ) (e : Event) → slice_get events place ≡ Some e
    → (log : Log) → Leaves (empty_base room) log
    → e.reply ≡ reply_after room (log_after (before ++ take place events) ++ log) e.call

-- it is the epoch of this number, it begins at what the events before it leave, and its replies are right
pub record IsNextOf (room : Room) (number : ℕ) (before : List Event) (epoch : Epoch) : Type 0 where
  pub numbered : epoch.number ≡ number
  pub begins : IsEnd (empty_base room) before epoch.base
  pub replies : AreRightReplies room before epoch.events.items

-- they are the epochs 1, 2 and so on, each of which begins where those before it led
abbrev pub AreInTurn : Room → List Epoch → Type 0
AreInTurn room epochs =
    (place : ℕ) (epoch : Epoch) → slice_get epochs place ≡ Some epoch
    → IsNextOf room (place + 1) (events_of (take place epochs)) epoch

-- the numbers of each seat rise
abbrev pub DoRise : List Event → Type 0
DoRise events =
    (place : ℕ) (e : Event) → slice_get events place ≡ Some e → IsLate (take place events) e.seat e.number → ⊥

-- ---- one journal and what was given for it

-- the epoch that is left in a journal
abbrev pub left_in : Journal → Epoch
left_in journal = record { number = journal.number; base = journal.base; events = journal.events }

-- the epochs that were given for the journal of a tenant at a partition
abbrev pub given_for : List (ℕ × ℕ × Epoch) → ℕ → ℕ → List Epoch
given_for given partition tenant =
    map (λ (g : ℕ × ℕ × Epoch). g.2) (filter (λ (g : ℕ × ℕ × Epoch). nat_eq g.0 partition && nat_eq g.1 tenant) given)

-- in an order of theirs, and followed by the one that is left, the given epochs are in turn: so they are just those
-- numbered below it, each once
abbrev pub Fit : Room → List Epoch → Epoch → Type 0
Fit room given left =
    (ordered : List Epoch) × IsPermutation given ordered × AreInTurn room (ordered ++ left ∷ [])

-- the journal of a first epoch has the events of the given epochs, in turn, and then those of the one that is left
abbrev pub IsJoined : Limits → List Epoch → Epoch → Journal → Type 0
IsJoined limits given left journal =
    (ordered : List Epoch) × IsPermutation given ordered × AreInTurn (room_for limits) (ordered ++ left ∷ [])
    × (account_of journal ≡ record {
      limits = limits;
      start = (new_account limits).start;
      events = events_of (ordered ++ left ∷ []);
    })

-- ---- the journals of all partitions

-- the journal of a tenant in the row of a partition
abbrev pub journal_in : Option (Vec Journal) → ℕ → Option Journal
journal_in None tenant = None
journal_in (Some row) tenant = slice_get row.items tenant

-- the journal of a tenant at a partition
abbrev pub journal_at : List (Vec Journal) → ℕ → ℕ → Option Journal
journal_at rows partition tenant = journal_in (slice_get rows partition) tenant

-- each epoch is given for a journal that is there
abbrev pub AreKnown : List (ℕ × ℕ × Epoch) → List (Vec Journal) → Type 0
AreKnown given rows = All (λ (g : ℕ × ℕ × Epoch). IsSome (journal_at rows g.0 g.1)) given

-- under the limits of its tenant each journal of a partition fits what was given for it
abbrev pub RowFits : List Limits → List (ℕ × ℕ × Epoch) → ℕ → List Journal → Type 0
RowFits limits given partition row =
    (tenant : ℕ) (journal : Journal) → slice_get row tenant ≡ Some journal
    → (its : Limits) × (slice_get limits tenant ≡ Some its)
    × Fit (room_for its) (given_for given partition tenant) (left_in journal)

-- of each journal of a partition there is the joined one, under the limits of its tenant
pub record IsRowJoined
    (limits : List Limits) (given : List (ℕ × ℕ × Epoch)) (partition : ℕ) (row joined : List Journal) : Type 0 where
  pub each : (tenant : ℕ) (journal : Journal) → slice_get row tenant ≡ Some journal
      → (its : Limits) × (answer : Journal)
      × (slice_get limits tenant ≡ Some its) × (slice_get joined tenant ≡ Some answer)
      × IsJoined its (given_for given partition tenant) (left_in journal) answer
  pub as_many : length joined ≡ length row

-- no epoch is given for a journal that is not there, and each journal fits what was given for it
pub record AllFit (limits : List Limits) (given : List (ℕ × ℕ × Epoch)) (rows : List (Vec Journal)) : Type 0 where
  pub known : AreKnown given rows
  pub each : (partition : ℕ) (row : Vec Journal) → slice_get rows partition ≡ Some row
      → RowFits limits given partition row.items

-- no epoch is given for a journal that is not there, and of each journal there is the joined one
pub record AreJoined
    (limits : List Limits) (given : List (ℕ × ℕ × Epoch)) (rows joined : List (Vec Journal)) : Type 0 where
  pub known : AreKnown given rows
  pub each : (partition : ℕ) (row : Vec Journal) → slice_get rows partition ≡ Some row
      → (answer : Vec Journal) × (slice_get joined partition ≡ Some answer)
      × IsRowJoined limits given partition row.items answer.items
  pub as_many : length joined ≡ length rows

-- in each journal the numbers of each seat rise
abbrev pub AllRise : List (Vec Journal) → Type 0
AllRise rows =
    (partition tenant : ℕ) (journal : Journal) → journal_at rows partition tenant ≡ Some journal
    → DoRise journal.events.items

-- the numbers rise in no joined journals
abbrev pub NoneRise : List Limits → List (ℕ × ℕ × Epoch) → List (Vec Journal) → Type 0
NoneRise limits given rows = (joined : List (Vec Journal)) → AreJoined limits given rows joined → AllRise joined → ⊥

-- each journal is one from the start, under the limits of its tenant, and sound
abbrev pub AllSound : List Limits → List (Vec Journal) → Type 0
AllSound limits rows =
    (partition tenant : ℕ) (journal : Journal) → journal_at rows partition tenant ≡ Some journal
    → (slice_get limits tenant ≡ Some journal.limits) × (epoch_start_of journal ≡ (new_account journal.limits).start)
    × IsSoundUnder journal.limits journal.events.items

-- ---- a book that replays them

-- the book has one account of these limits, whose epoch began at what the events before it leave, and the calls and
-- replies of its epoch are those of these events
abbrev pub IsAmid : Limits → Room → List Event → List Event → List Account → Type 0
IsAmid limits room before events accounts =
    (start : EpochStart) × (given : List Event)
    × (accounts ≡ record { limits = limits; start = start; events = given } ∷ [])
    × IsEnd (empty_base room) before start.base
    × (log_after given ≡ log_after events)

-- What is joined is so; that a base does not fit is said only where they do not all fit; and nothing else fails it but an
-- allocation failure.
pub record JoinsIfFit {A : Type 0} (IsWhole : A → Type 0) (Fits : Type 0) (result : Result A JoinFault) : Type 0 where
  pub joined : IfOk result IsWhole
  pub base : IsErrOf result Base → Fits → ⊥
  pub faults : IfErr result (λ fault. (fault ≡ Base) ⊎ (fault ≡ OutOfMemory))
