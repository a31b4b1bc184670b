-- What each operation of a seat leaves, whatever it was asked for.
use Rattle.std.specs.Prelude.{◌≡◌, ◌↔◌, ◌<◌, ◌≤◌, ◌+◌, ℕ, true, false, List}
use mathlib.Core.List.{IsPrefix}
use Rattle.stamps.specs.Stamp.{stamp}
use Rattle.stamps.specs.declared.record.Item.{Item}
use Rattle.plain_store.specs.declared.answer.Answer.{Answer}
use Rattle.plain_store.specs.declared.answer.Answer.TheVariants.{Refused}
use Rattle.plain_store.specs.declared.refusal.Refusal.TheVariants.{Stopped, RowsUsed}
use Rattle.plain_store.specs.declared.step.Act.{Act}
use Rattle.plain_store.specs.declared.step.Act.TheVariants.{Put, Get, Find}
use Rattle.plain_store.specs.Words.{Key, Tag, Setup}
use Rattle.hub.specs.Atomic.{IsReadAtomic}
use Rattle.hub.specs.Fresh.{AreCommittedIn, IsFreshAt, IsFreshByEntry}
use Rattle.hub.specs.Limits.{last_call, max_calls}
use Rattle.plain_store.specs.History.{Intent as Asked, Writes, Gets, Finds}
use Rattle.hub.specs.Replies.{AreServed, IfDone, IfListed, IfRead, IfRuns, IsDrawn, IsListOf, IsMoveOf, IsReadOf, IsWriteOf}
use Rattle.hub.specs.Seats.{SeatView, Extends, IsEntered, begun_entries, last_operation, sight}

-- The seat is that of the same session, later: its entries stay, it sent at most so many calls more, and each reply that
-- it entered since came to one of these.
pub record IsLater (most : ℕ) (old new : SeatView) : Type 0 where
  pub name : new.name ≡ old.name
  pub parts : new.parts ≡ old.parts
  pub kept : Extends old.entries new.entries
  pub seen : IsPrefix old.seen new.seen
  pub served : AreServed (sight new) old.sent new.sent old.entries new.entries
  pub sent : (old.sent ≤ new.sent) × (new.sent ≤ old.sent + most)
  pub counter : old.counter ≤ new.counter

-- what is said of what an act asks for, if it asks for something: a write writes under the next stamp of the seat's client
abbrev pub IfAsks : SeatView → Act → (Asked → Type 0) → Type 0
IfAsks seat (Put client items) P = P (Writes (stamp (seat.counter + 1) seat.name.client) items)
IfAsks seat (Get client keys) P = P (Gets keys)
IfAsks seat (Find client tag) P = P (Finds tag)
IfAsks seat act P = Unit {0}

-- What is answered, unless it is a refusal, reports the plain store's move at the last of replies that the operation entered.
abbrev pub ReportsMove : Act → SeatView → Answer → SeatView → Type 0
ReportsMove act old answer new =
    IfAsks old act (λ asked. (setup : Setup) → setup.partitions ≡ old.parts
    → IfRuns answer (IsMoveOf (last_operation new) setup asked (begun_entries old act) new.entries answer))

-- An operation of this act was answered. A seat that was stopped answers 19, and one whose calls are used up 26.
pub record IsOperation (act : Act) (old : SeatView) (answer : Answer) (new : SeatView) : Type 0 where
  pub entered : IsEntered act old answer new
  pub stopped : (answer ≡ Refused Stopped) ↔ (old.stopped ≡ true)
  pub past : (answer ≡ Refused RowsUsed) ↔ ((old.stopped ≡ false) × (last_call < old.sent))
  pub later : IsLater max_calls old new
  pub moved : ReportsMove act old answer new

-- ---- what is reported answers replies that the operation entered

abbrev pub ReportsWrite : List Item → SeatView → Answer → SeatView → Type 0
ReportsWrite items old answer new =
    (setup : Setup) → setup.partitions ≡ old.parts
    → IfDone answer (λ own. IsWriteOf (last_operation new) setup own items (begun_entries old (Put old.name.client items)) new.entries)

abbrev pub ReportsRead : List Key → SeatView → Answer → SeatView → Type 0
ReportsRead keys old answer new =
    IfRead answer (IsReadOf (last_operation new) keys (begun_entries old (Get old.name.client keys)) new.entries)

abbrev pub ReportsList : Tag → SeatView → Answer → SeatView → Type 0
ReportsList tag old answer new =
    (setup : Setup) → setup.partitions ≡ old.parts
    → IfListed answer (IsListOf (last_operation new) setup tag (begun_entries old (Find old.name.client tag)) new.entries)

-- ---- what each of the three leaves

-- A write of these items. That it is done, under the next stamp, answers replies that it entered, and each key is committed then.
pub record PutsAll (items : List Item) (old : SeatView) (answer : Answer) (new : SeatView) : Type 0 where
  pub operated : IsOperation (Put old.name.client items) old answer new
  pub stamp : IfDone answer (IsDrawn old.name.client old.counter new.counter)
  pub written : ReportsWrite items old answer new
  pub committed : IfDone answer (AreCommittedIn new.seen new.name.tenant items)

-- A read of these keys. What it reports answers replies that it entered; it is read atomic, and fresh by the read's entry in the history.
pub record GetsAll (keys : List Key) (old : SeatView) (answer : Answer) (new : SeatView) : Type 0 where
  pub operated : IsOperation (Get old.name.client keys) old answer new
  pub read : ReportsRead keys old answer new
  pub atomic : IfRead answer (λ told. ∥ IsReadAtomic new.seen new.name.tenant told ∥₁)
  pub fresh : IfRead answer (λ told. IsFreshByEntry old.seen new.seen new.name told)

-- So of one that found so many entries in its tenant's clock, and is fresh by what it found.
pub record GetsAllAt (number : ℕ) (keys : List Key) (old : SeatView) (answer : Answer) (new : SeatView) : Type 0 where
  pub operated : IsOperation (Get old.name.client keys) old answer new
  pub read : ReportsRead keys old answer new
  pub atomic : IfRead answer (λ told. ∥ IsReadAtomic new.seen new.name.tenant told ∥₁)
  pub fresh : IfRead answer (λ told. IsFreshByEntry old.seen new.seen new.name told)
  pub looked : IfRead answer (λ told. IsFreshAt number old.seen new.seen new.name told)

-- A search for this tag, as of a read.
pub record FindsTag (tag : Tag) (old : SeatView) (answer : Answer) (new : SeatView) : Type 0 where
  pub operated : IsOperation (Find old.name.client tag) old answer new
  pub listed : ReportsList tag old answer new
  pub atomic : IfListed answer (λ told. ∥ IsReadAtomic new.seen new.name.tenant told ∥₁)
  pub fresh : IfListed answer (λ told. IsFreshByEntry old.seen new.seen new.name told)

-- So of one that found so many entries in its tenant's clock.
pub record FindsTagAt (number : ℕ) (tag : Tag) (old : SeatView) (answer : Answer) (new : SeatView) : Type 0 where
  pub operated : IsOperation (Find old.name.client tag) old answer new
  pub listed : ReportsList tag old answer new
  pub atomic : IfListed answer (λ told. ∥ IsReadAtomic new.seen new.name.tenant told ∥₁)
  pub fresh : IfListed answer (λ told. IsFreshByEntry old.seen new.seen new.name told)
  pub looked : IfListed answer (λ told. IsFreshAt number old.seen new.seen new.name told)
