-- What contracts see of a seat, and what an operation of it leaves.
use Rattle.std.specs.Prelude.{◌≡◌, ◌⊎◌, ◌≤◌, ℕ, Bool, true, false, cond, List, [], ◌∷◌, ◌++◌, Option, Some, None, Result, Ok, Err}
use Rattle.std.specs.List.{list_all, filter_map, cons_option}
use Rattle.plain_store.specs.declared.refusal.Refusal.{Refusal}
use Rattle.plain_store.specs.declared.refusal.Refusal.TheVariants.{NoTenant, Stopped, Late, RowsUsed, OutOfMemory}
use Rattle.plain_store.specs.declared.step.Act.{Act}
use Rattle.plain_store.specs.declared.answer.Answer.{Answer}
use Rattle.plain_store.specs.declared.answer.Answer.TheVariants.{Refused, Done, Read, Listed, Restart, Ended}
use Rattle.shard.specs.declared.jobs.Fault.{Fault}
use Rattle.shard.specs.declared.jobs.Fault.TheVariants as faults
use Rattle.shard.specs.declared.seat_name.SeatName.{SeatName}
use Rattle.closed_store.specs.declared.transcript.Transcript.{Transcript}
use Rattle.history.specs.declared.entry.HistoryEntry.{HistoryEntry}
use Rattle.history.specs.declared.entry.Mark.{Mark}
use Rattle.hub.specs.Sights.{OperationSight, SeatSight, operation_of, sight_of}
use Rattle.entry_list.specs.declared.kinds.Entry.{Entry}
use Rattle.entry_list.specs.declared.kinds.Entry.TheVariants.{Began, Answered}

pub record SeatView : Type 0 where
  pub name : SeatName
  pub stopped : Bool
  pub sent : ℕ
  pub counter : ℕ
  pub parts : ℕ
  pub mark : Mark
  pub entries : List Entry
  pub seen : List HistoryEntry

-- whose seat it is, and what it has seen
abbrev pub sight : SeatView → SeatSight
sight seat = sight_of seat.name seat.seen

-- so of its last operation
abbrev pub last_operation : SeatView → OperationSight
last_operation seat = operation_of seat.name seat.mark seat.seen

-- the refusals that no transcript has: 10, 19, 25, 26 and 30
abbrev pub is_outside : Refusal → Bool
is_outside NoTenant = true
is_outside Stopped = true
is_outside Late = true
is_outside RowsUsed = true
is_outside OutOfMemory = true
is_outside refusal = false

abbrev pub is_unrecorded : Answer → Bool
is_unrecorded (Refused refusal) = is_outside refusal
is_unrecorded answer = false

-- an answer that ends a transaction
abbrev pub is_final : Answer → Bool
is_final (Done stamp) = true
is_final (Read readings) = true
is_final (Listed readings) = true
is_final (Restart key floor) = true
is_final (Ended refusal rows) = true
is_final answer = false

-- the answer that an entry is, if it is one
abbrev pub answer_in : Entry → Option Answer
answer_in (Answered answer) = Some answer
answer_in entry = None

-- the entries so far stay, and others may follow
abbrev pub Extends : List Entry → List Entry → Type 0
Extends old new = (more : List Entry) × (new ≡ old ++ more)

-- what a transcript has of these entries of the seat of this name: all, or none where they are not recorded
abbrev pub recorded : SeatName → List Entry → List Entry
recorded name entries = cond name.is_recorded entries []

-- the transcript is that of this session
pub record IsNamed (transcript : Transcript) (name : SeatName) : Type 0 where
  pub tenant : transcript.tenant ≡ name.tenant
  pub client : transcript.client ≡ name.client
  pub turn : transcript.turn ≡ name.turn
  pub seat : transcript.seat ≡ name.seat
  pub base : transcript.base ≡ name.base
  pub counter : transcript.counter ≡ name.counter

-- A seat was just opened for this client, from this base, in a store of so many partitions, and has done nothing, and what it does is
-- recorded. It begins at the counter that it answers, which is at least the base.
pub record IsOpened (parts tenant client base : ℕ) (seat : SeatView) : Type 0 where
  pub name : (seat.name.tenant ≡ tenant) × (seat.name.client ≡ client) × (seat.name.base ≡ base)
  pub counter : (seat.counter ≡ seat.name.counter) × (base ≤ seat.name.counter)
  pub fresh : (seat.stopped ≡ false) × (seat.sent ≡ 0) × (seat.entries ≡ []) × (seat.parts ≡ parts)
  pub records : seat.name.is_recorded ≡ true

-- the room of 5 replies, where an answer is still to be entered
abbrev pub spare : {X : Type 0} → Option X → ℕ
spare None = 0
spare (Some place) = 5

-- ---- what an operation enters

-- an answer as a seat reports it, which names no rows of an end
abbrev pub at_seat : Answer → Answer
at_seat (Ended refusal rows) = Ended refusal None
at_seat answer = answer

-- what was answered, where the place for the answer is used up
abbrev pub told_by : {X : Type 0} → Option X → Answer → Option Answer
told_by (Some place) answer = None
told_by None answer = Some answer

-- How an operation ends: with the first fault, if there was one, and as one of no tenant where nothing was answered.
abbrev pub outcome_of : {X : Type 0} → Option Fault → Option X → Result (Unit {0}) Fault
outcome_of (Some fault) place = Err fault
outcome_of None (Some place) = Err faults.NoTenant
outcome_of None None = Ok tt

-- what was answered, if anything was, ends a transaction
abbrev pub EndsSo : {X : Type 0} → Option X → Answer → Type 0
EndsSo (Some place) answer = Unit {0}
EndsSo None answer = is_final answer ≡ true

-- an entry of an operation that has begun
abbrev pub is_inside : Entry → Bool
is_inside (Began act) = false
is_inside entry = true

-- the entries so far, and then those of an operation that has begun: replies, and what was answered, once
pub record Follows (start : List Entry) (told : Option Answer) (entries : List Entry) : Type 0 where
  pub more : List Entry
  pub is : entries ≡ start ++ more
  pub answers : filter_map answer_in more ≡ cons_option told []
  pub inside : list_all is_inside more ≡ true

-- ---- what an answer leaves that no transcript has

-- the refusals of a seat that begins nothing: 19, 26, and 30 where room for the operation was refused
abbrev pub is_unbegun : Refusal → Bool
is_unbegun Stopped = true
is_unbegun RowsUsed = true
is_unbegun OutOfMemory = true
is_unbegun refusal = false

-- the refusals that tell a worker's fault: 10, 25 and 30
abbrev pub is_of_worker : Refusal → Bool
is_of_worker NoTenant = true
is_of_worker Late = true
is_of_worker OutOfMemory = true
is_of_worker refusal = false

-- A seat that went on was stopped. What the operation of this act had entered by then stays: that it began, replies, and its
-- answer, if it had one.
pub record IsStopped (act : Act) (old new : SeatView) : Type 0 where
  pub went_on : old.stopped ≡ false
  pub stops : new.stopped ≡ true
  pub told : Option Answer
  pub entered : Follows (old.entries ++ Began act ∷ []) told new.entries

-- the answer is a refusal: of an operation that did not begin, and the seat is as it was; or of a worker, and stopped it
abbrev pub IsLeftBy : Act → Answer → SeatView → SeatView → Type 0
IsLeftBy act answer old new =
    (refusal : Refusal) × (answer ≡ Refused refusal)
    × (((is_unbegun refusal ≡ true) × (new ≡ old)) ⊎ ((is_of_worker refusal ≡ true) × IsStopped act old new))

-- the entries of a seat that has begun this act
abbrev pub begun_entries : SeatView → Act → List Entry
begun_entries seat act = seat.entries ++ Began act ∷ []

-- The seat began just this act and goes on, and the answer is the one that it entered; or the answer is a refusal that
-- no transcript has.
abbrev pub IsEntered : Act → SeatView → Answer → SeatView → Type 0
IsEntered act old answer new =
    ((is_unrecorded answer ≡ false) × (old.stopped ≡ false) × (new.stopped ≡ false)
    × Follows (begun_entries old act) (Some answer) new.entries)
    ⊎ ((is_unrecorded answer ≡ true) × IsLeftBy act answer old new)
