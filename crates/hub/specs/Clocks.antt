-- What a put does whose stamp the clock of its tenant gives, and which is reported to that clock.
use Rattle.std.specs.Prelude.{◌≡◌, ◌⊎◌, ◌↔◌, ◌<◌, ◌≤◌, ◌++◌, ℕ, Bool, true, false, List, Option, None, Some}
use mathlib.Core.List.{IsPrefix}
use Rattle.stamps.specs.Stamp.{stamp}
use Rattle.stamps.specs.declared.record.Item.{Item}
use Rattle.plain_store.specs.declared.answer.Answer.{Answer}
use Rattle.plain_store.specs.declared.answer.Answer.TheVariants.{Done, Refused}
use Rattle.plain_store.specs.declared.refusal.Refusal.{Refusal}
use Rattle.plain_store.specs.declared.refusal.Refusal.TheVariants.{OutOfMemory, RowsUsed, Stopped}
use Rattle.plain_store.specs.declared.step.Act.TheVariants.{Put}
use Rattle.plain_store.specs.Words.{Stamp}
use Rattle.entry_list.specs.Raises.{raise_entries}
use Rattle.history.specs.declared.entry.HistoryEntry.{HistoryEntry}
use Rattle.history.specs.Clock.{IsDrawnBehind, IsOverrun, IsToldAt}
use Rattle.history.specs.Entries.{clock_of}
use Rattle.shard.specs.declared.seat_name.SeatName.{SeatName}
use Rattle.hub.specs.Fresh.{AreCommittedIn}
use Rattle.hub.specs.Limits.{last_call, max_calls}
use Rattle.hub.specs.Operations.{IsLater, ReportsMove, ReportsWrite}
use Rattle.hub.specs.Replies.{IfDone, IsDrawn}
use Rattle.hub.specs.Seats.{SeatView, IsEntered}

-- The seat's counter was raised, which it has entered, and it has seen more of the history. The rest of it is as it was.
pub record IsRaised (old new : SeatView) : Type 0 where
  pub seen : IsPrefix old.seen new.seen
  pub counter : old.counter ≤ new.counter
  pub rest : new ≡ record old {
    counter = new.counter;
    entries = old.entries ++ raise_entries old.name.client new.counter;
    seen = new.seen;
  }

-- it was, or is as it was
abbrev pub MayBeRaised : (old new : SeatView) → Type 0
MayBeRaised old new = (new ≡ old) ⊎ IsRaised old new

-- The items were written: that it is done, under the next stamp, answers replies that this operation entered, and so does each answer
-- that is no refusal.
pub record IsWrittenBy (items : List Item) (old : SeatView) (answer : Answer) (new : SeatView) : Type 0 where
  pub entered : IsEntered (Put old.name.client items) old answer new
  pub stamp : IfDone answer (IsDrawn old.name.client old.counter new.counter)
  pub written : ReportsWrite items old answer new
  pub moved : ReportsMove (Put old.name.client items) old answer new

-- why nothing is drawn: the clock gives none, or room to enter the raise was refused
abbrev pub IsDrawRefusal : Refusal → Type 0
IsDrawRefusal refusal = (refusal ≡ RowsUsed) ⊎ (refusal ≡ OutOfMemory)

-- The stamp is the client's under a counter that was drawn from the tenant's clock, behind all that was seen before.
pub record IsStampedBehind (old seen : List HistoryEntry) (name : SeatName) (own : Stamp) : Type 0 where
  pub counter : ℕ
  pub stamped : own ≡ stamp counter name.client
  pub drawn : IsDrawnBehind old seen (record { tenant = name.tenant; counter = counter })

-- What a put does whose stamp its tenant's clock gives. The seat's counter was raised, and it wrote the items then; or it was refused as
-- it was. That it is done says that its stamp was drawn behind all that the seat had seen, above whatever was drawn before. It is refused
-- because the seat was stopped just where it was, and where its calls were used up.
pub record PutsByClock (items : List Item) (old : SeatView) (answer : Answer) (new : SeatView) : Type 0 where
  pub between : SeatView
  pub raised : MayBeRaised old between
  pub written : IsWrittenBy items between answer new
  pub later : IsLater max_calls old new
  pub stopped : (answer ≡ Refused Stopped) ↔ (old.stopped ≡ true)
  pub used_up : (old.stopped ≡ false) × (last_call < old.sent) → answer ≡ Refused RowsUsed
  pub drawn : IfDone answer (IsStampedBehind old.seen new.seen old.name)
  pub committed : IfDone answer (AreCommittedIn new.seen new.name.tenant items)

-- the seat has seen more of the history, and is as it was else
pub record HasSeenMore (old new : SeatView) : Type 0 where
  pub seen : IsPrefix old.seen new.seen
  pub rest : new ≡ record old { seen = new.seen }

-- ---- puts that are reported

-- A report has this number in the tenant's clock, and stands behind all that was seen before. Without a number the clock was overrun.
abbrev pub IsReported : Option ℕ → (old seen : List HistoryEntry) → ℕ → Type 0
IsReported (Some place) old seen tenant = IsToldAt old seen tenant place
IsReported None old seen tenant = IsOverrun (clock_of tenant) old seen

-- The put of these items under this stamp was reported to its tenant's clock under this number, behind a history in which each of its keys
-- is committed.
pub record WasReported (items : List Item) (seen : List HistoryEntry) (tenant place : ℕ) (own : Stamp) : Type 0 where
  pub evidence : List HistoryEntry
  pub committed : AreCommittedIn evidence tenant items own
  pub reported : IsToldAt evidence seen tenant place

-- a write is done, under a stamp of which this is said
abbrev pub IsDoneAs : Answer → (Stamp → Type 0) → Type 0
IsDoneAs (Done own) P = P own
IsDoneAs answer P = ⊥

-- whether a write is done
abbrev pub is_written : Answer → Bool
is_written (Done own) = true
is_written answer = false

-- A put with a number is done, and was reported under it. One that is done without a number overran the clock.
abbrev pub ReportsDone : Option ℕ → List Item → SeatView → Answer → SeatView → Type 0
ReportsDone (Some place) items old answer new = IsDoneAs answer (WasReported items new.seen new.name.tenant place)
ReportsDone None items old answer new = IfDone answer (λ own. IsOverrun (clock_of old.name.tenant) old.seen new.seen)
