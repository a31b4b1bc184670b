-- In which orders steps may be taken, and when the run agrees with what transcripts and journals say.
use Rattle.std.specs.Prelude.{◌≡◌, ◌≢◌, ◌⊎◌, ◌<◌, ◌≤◌, ℕ, List, [], ◌∷◌, length, slice_get, All, Option, Some, None}
use Rattle.settle.specs.Words.{Act, Hello, Put, GetAll, Find, Deliver, Stop, CollectAt, Message, Reply}
use Rattle.plain_store.specs.History.{History, message_at, log_at}
use Rattle.partition.specs.Events.{Event}
use Rattle.closed_store.specs.declared.transcript.Transcript.{Transcript}
use Rattle.settle.specs.Input.{Input, setup_for, transcripts_in, events_of_partition}
use Rattle.settle.specs.Program.{Doing, Greets, Begins, Takes, Leaves, TranscriptItem, reply_taken, program_of, at_place}
use Rattle.settle.specs.Trace.{Origin, OfTranscript, OfJournal, at_seat, TracedStep, Trace, after, told_next, times}
use Rattle.settle.specs.Trace.{call_rows, replies_sent}

-- ---- what comes next

-- a transcript of the tenant, at its place
abbrev pub IsTranscriptAt : Input → ℕ → Transcript → Type 0
IsTranscriptAt input place transcript =
    (slice_get (transcripts_in input) place ≡ Some transcript) × (transcript.tenant ≡ input.tenant)

-- what a transcript gives next
abbrev pub IsNextItem : Trace → ℕ → Transcript → TranscriptItem → Type 0
IsNextItem older place transcript item =
    slice_get (program_of transcript) (times (OfTranscript place) older) ≡ Some item

-- what a journal gives next
abbrev pub IsNextEvent : Input → Trace → ℕ → Event → Type 0
IsNextEvent input older partition event =
    slice_get (events_of_partition input partition) (times (OfJournal partition) older) ≡ Some event

-- all steps of the transcript were taken
abbrev pub IsOver : Trace → ℕ → Transcript → Type 0
IsOver older place transcript = length (program_of transcript) ≤ times (OfTranscript place) older

-- the one session is of the same client and comes before the other: by turn, and by their places where the
-- turns are the same
abbrev pub ComesBefore : ℕ → Transcript → ℕ → Transcript → Type 0
ComesBefore i earlier j later =
    (earlier.client ≡ later.client) × ((earlier.turn < later.turn) ⊎ ((earlier.turn ≡ later.turn) × (i < j)))

-- the transcript at a place is over, if it is the tenant's of the seat
abbrev pub IsSeatOverAt : Input → Trace → ℕ → ℕ → Type 0
IsSeatOverAt input older seat place =
    (transcript : Transcript) → IsTranscriptAt input place transcript → transcript.seat ≡ seat
    → IsOver older place transcript

-- the next event of a partition, whose seat took all its steps without sending a call of its number
pub record IsUnsentAt (input : Input) (older : Trace) (partition : ℕ) : Type 0 where
  pub event : Event
  pub next : IsNextEvent input older partition event
  pub over : (place : ℕ) → IsSeatOverAt input older event.seat place
  pub unsent : at_place (call_rows input event.seat older) event.number ≡ None

abbrev pub EarlierAreOver : Input → Trace → ℕ → Transcript → Type 0
EarlierAreOver input older place transcript =
    (i : ℕ) (earlier : Transcript) → IsTranscriptAt input i earlier → ComesBefore i earlier place transcript
    → IsOver older i earlier

-- the act begins a transaction of the client; or it ends the client's session, or begins it again, as a raise of its counter does
abbrev pub IsRequest : ℕ → Act → Type 0
IsRequest client (Put c items) = c ≡ client
IsRequest client (GetAll c keys) = c ≡ client
IsRequest client (Find c tag) = c ≡ client
IsRequest client (Stop c) = c ≡ client
IsRequest client (Hello c base) = c ≡ client
IsRequest client act = ⊥

-- the event of a seat's call of a number stands at a place
pub record IsEventOf (events : List Event) (seat number place : ℕ) : Type 0 where
  pub event : Event
  pub there : at_place events place ≡ Some event
  pub of_seat : event.seat ≡ seat
  pub of_number : event.number ≡ number

-- the row is that of the reply to a seat's call of a number, whose event stands at a place of a partition's journal
abbrev pub IsReplyRow : Input → Trace → (seat number partition place : ℕ) → ℕ → Type 0
IsReplyRow input older seat number partition place row =
    IsEventOf (events_of_partition input partition) seat number place
    × (at_place (replies_sent input partition older) place ≡ Some row)

-- the act is the step that a transcript gives for this, and it may be taken now
abbrev pub Gives : Input → Trace → ℕ → Transcript → Doing → Act → Type 0
Gives input older place transcript Greets act =
    (act ≡ Hello transcript.client transcript.base) × EarlierAreOver input older place transcript
Gives input older place transcript (Begins begun) act = (act ≡ begun) × IsRequest transcript.client begun
Gives input older place transcript (Takes number partition event_place reply) act =
    (row : ℕ) × (act ≡ Deliver row) × IsReplyRow input older transcript.seat number partition event_place row
Gives input older place transcript Leaves act = act ≡ Stop transcript.client

-- the act is the step that an event gives, and it may be taken now: seat 0 is the collector,
-- every other seat's event is the delivery of the call that the seat sent under the event's number
abbrev pub Brings : Input → Trace → ℕ → Event → Act → Type 0
Brings input older partition event act =
    ((event.seat ≡ 0) × (act ≡ CollectAt partition))
    ⊎ ((event.seat ≢ 0)
    × ((row : ℕ) × (act ≡ Deliver row) × (at_place (call_rows input event.seat older) event.number ≡ Some row)))

-- the step is the next of its origin, and may be taken now
abbrev pub MayTake : Input → Trace → Origin → Act → Type 0
MayTake input older (OfTranscript place) act =
    (transcript : Transcript) × (item : TranscriptItem) × IsTranscriptAt input place transcript
    × IsNextItem older place transcript item × Gives input older place transcript item.doing act
MayTake input older (OfJournal partition) act =
    (event : Event) × IsNextEvent input older partition event × Brings input older partition event act

abbrev pub IsFree : Input → Trace → TracedStep → Type 0
IsFree input older taken = MayTake input older taken.origin taken.act

-- ---- what the run must agree with

abbrev pub reply_in : Option Message → Option Reply
reply_in None = None
reply_in (Some message) = message.reply

-- the reply that a step delivers
abbrev pub reply_delivered : History → Act → Option Reply
reply_delivered history (Deliver row) = reply_in (message_at history row)
reply_delivered history act = None

-- it is the one that is taken, if one is
abbrev pub Delivers : History → Act → Option Reply → Type 0
Delivers history act None = Unit {0}
Delivers history act (Some reply) = reply_delivered history act ≡ Some reply

-- the run answers the step as the transcript noted, which has no rows of an end, and a reply that was taken is the
-- run's
abbrev pub AgreesWithItem : Input → Trace → Act → TranscriptItem → Type 0
AgreesWithItem input older act item =
    All (λ answer. answer ≡ at_seat (told_next input older act)) item.noted
    × Delivers (after input older) act (reply_taken item.doing)

-- the step brings the event's call to its partition, and it is replied what the event says
abbrev pub AgreesWithEvent : Input → Trace → Origin → Act → ℕ → Event → Type 0
AgreesWithEvent input older origin act partition event =
    log_at (setup_for input) (after input (record { origin = origin; act = act } ∷ older)) partition
    ≡ record { call = event.call; reply = event.reply } ∷ log_at (setup_for input) (after input older) partition

abbrev pub AgreesAt : Input → Trace → Origin → Act → Type 0
AgreesAt input older (OfTranscript place) act =
    (transcript : Transcript) (item : TranscriptItem) → IsTranscriptAt input place transcript
    → IsNextItem older place transcript item → AgreesWithItem input older act item
AgreesAt input older (OfJournal partition) act =
    (event : Event) → IsNextEvent input older partition event
    → AgreesWithEvent input older (OfJournal partition) act partition event

abbrev pub Agrees : Input → Trace → TracedStep → Type 0
Agrees input older taken = AgreesAt input older taken.origin taken.act

-- ---- fronts

-- each step was free in its turn
abbrev pub IsFront : Input → Trace → Type 0
IsFront input [] = Unit {0}
IsFront input (taken ∷ older) = IsFree input older taken × IsFront input older

-- the run agrees with each step
abbrev pub AllAgree : Input → Trace → Type 0
AllAgree input [] = Unit {0}
AllAgree input (taken ∷ older) = Agrees input older taken × AllAgree input older

-- nothing may be taken next
abbrev pub NoneIsFree : Input → Trace → Type 0
NoneIsFree input trace = (taken : TracedStep) → IsFree input trace taken → ⊥

-- every step of each of the tenant's transcripts and of each journal was taken
pub record TakesAll (input : Input) (trace : Trace) : Type 0 where
  pub transcripts : (place : ℕ) (transcript : Transcript) → IsTranscriptAt input place transcript
      → IsOver trace place transcript
  pub journals : (partition : ℕ) → length (events_of_partition input partition) ≤ times (OfJournal partition) trace
