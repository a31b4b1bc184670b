-- What settle answers.
use Rattle.std.specs.Prelude.{◌≡◌, ◌≢◌, ◌⊎◌, ◌<◌, ℕ, List, ◌∷◌, ◌++◌, length, map, reverse, slice_get, All}
use Rattle.std.specs.Prelude.{Bool, true, Option, Some, None, Result, Ok, Err, MatchResult, IfOk, IfSome, IfNone}
use Rattle.std.specs.Global.{Vec}
use Rattle.stamps.specs.declared.bounds.Limits.{Limits}
use Rattle.settle.specs.Words.{Act, Reply, Step}
use Rattle.plain_store.specs.Words.{IsAct}
use Rattle.plain_store.specs.History.{log_at}
use Rattle.partition.specs.Events.{Event}
use Rattle.partition.specs.Accounts.{epoch_start_of, new_account}
use Rattle.partition.specs.declared.journal.Journal.{Journal}
use Rattle.entry_list.specs.declared.kinds.Entry.TheVariants.{Took}
use Rattle.closed_store.specs.declared.transcript.Transcript.{Transcript}
use Rattle.closed_store.specs.declared.closed.Closed.{Closed}
use Rattle.settle.specs.declared.settle_fault.SettleFault.{SettleFault}
use Rattle.settle.specs.declared.settle_fault.SettleFault.TheVariants.{NoTenant, Missing, Mismatch, Stuck, OutOfMemory}
use Rattle.settle.specs.declared.step_fault.StepFault.{StepFault}
use Rattle.settle.specs.declared.step_fault.StepFault.TheVariants.{Mismatch as Differs, Lost, OutOfMemory as NoMemory}
use Rattle.settle.specs.Input.{Input, input_of, setup_for, journal_of_closed, events_of_partition}
use Rattle.settle.specs.Program.{TranscriptItem, program_of}
use Rattle.settle.specs.Replaying.{step_of}
use Rattle.settle.specs.Trace.{OfTranscript, OfJournal, TracedStep, Trace, after, acts_of, times}
use Rattle.settle.specs.Fronts.{IsEventOf, IsTranscriptAt, IsFree, Agrees, IsFront, AllAgree}
use Rattle.settle.specs.Fronts.{NoneIsFree, TakesAll, IsUnsentAt, Gives, Brings, AgreesWithItem, AgreesWithEvent}

-- each partition's log is its journal
abbrev pub LogsAreJournals : Input → Trace → Type 0
LogsAreJournals input trace =
    (partition : ℕ)
    → reverse (log_at (setup_for input) (after input trace) partition)
    ≡ map (λ (event : Event). record { call = event.call; reply = event.reply }) (events_of_partition input partition)

-- ---- where steps stand in a list

-- The transcript gave an item's step after n of its own. It was free in its turn: the hello, the transaction that
-- was begun, the stop or the hello of a raise, the delivery of the reply of the event at its place, or the stop. The plain
-- store answers it as was noted.
pub record IsTakenItem (input : Input) (trace : Trace) (place : ℕ) (transcript : Transcript) (n : ℕ) (item : TranscriptItem)
    : Type 0 where
  pub newer : Trace
  pub act : Act
  pub older : Trace
  pub stands : trace ≡ newer ++ record { origin = OfTranscript place; act = act } ∷ older
  pub before : times (OfTranscript place) older ≡ n
  pub gives : Gives input older place transcript item.doing act
  pub agrees : AgreesWithItem input older act item

-- The journal gave an event's step after n of its own. It was free in its turn: a collection there that keeps what the
-- event says, or the delivery of the call that the seat had sent under the event's number. It brought the event's call,
-- for the event's reply.
pub record IsServedEvent (input : Input) (trace : Trace) (partition n : ℕ) (event : Event) : Type 0 where
  pub newer : Trace
  pub act : Act
  pub older : Trace
  pub stands : trace ≡ newer ++ record { origin = OfJournal partition; act = act } ∷ older
  pub before : times (OfJournal partition) older ≡ n
  pub brings : Brings input older partition event act
  pub agrees : AgreesWithEvent input older (OfJournal partition) act partition event

-- the transcript's steps are as many as its program has items, and the n-th is that of the n-th item
pub record IsProgramOf (input : Input) (trace : Trace) (place : ℕ) (transcript : Transcript) : Type 0 where
  pub count : times (OfTranscript place) trace ≡ length (program_of transcript)
  pub each : (n : ℕ) (item : TranscriptItem) → slice_get (program_of transcript) n ≡ Some item
      → IsTakenItem input trace place transcript n item

-- the journal's steps are as many as its events, and the n-th is that of the n-th event
pub record IsJournalOf (input : Input) (trace : Trace) (partition : ℕ) : Type 0 where
  pub count : times (OfJournal partition) trace ≡ length (events_of_partition input partition)
  pub each : (n : ℕ) (event : Event) → slice_get (events_of_partition input partition) n ≡ Some event
      → IsServedEvent input trace partition n event

-- ---- what must be there

-- the limits are the same, keep aside
abbrev pub AreSameLimits : Limits → Limits → Type 0
AreSameLimits its own = (its.slots ≡ own.slots) × (its.items ≡ own.items) × (its.clients ≡ own.clients)

-- The tenant's journal at a partition is there, begins at the beginning (its first epoch, which began with nothing),
-- and has the config's limits, keep aside.
pub record HasJournal (closed : Closed) (tenant : ℕ) (limits : Limits) (partition : ℕ) : Type 0 where
  pub journal : Journal
  pub there : journal_of_closed closed tenant partition ≡ Some journal
  pub first : epoch_start_of journal ≡ (new_account journal.limits).start
  pub same : AreSameLimits journal.limits limits

-- so has each partition
abbrev pub HasJournals : Closed → ℕ → Limits → Type 0
HasJournals closed tenant limits =
    (partition : ℕ) → partition < closed.config.parts → HasJournal closed tenant limits partition

-- ---- a list

-- The steps are the tenant's of its transcripts and journals, each once and no other, each free in its turn, with a
-- Keep step right before each collection whose event kept another number than was in force; and the plain store that
-- takes them answers what the transcripts and the journals say.
pub record Settles (input : Input) (steps : List Step) : Type 0 where
  -- each partition's journal is there, whole and of these limits
  pub journals : HasJournals input.closed input.tenant input.limits
  pub trace : Trace
  pub is : steps ≡ map (step_of input.tenant) (acts_of input trace)
  pub front : IsFront input trace
  pub agree : AllAgree input trace
  pub whole : TakesAll input trace
  -- so the steps of each transcript are its program, in order, and those of each journal its events
  pub programs : (place : ℕ) (transcript : Transcript) → IsTranscriptAt input place transcript
      → IsProgramOf input trace place transcript
  pub events : (partition : ℕ) → IsJournalOf input trace partition
  -- and each partition's log is its journal
  pub logs : LogsAreJournals input trace
  -- the clients that steps name have numbers in range
  pub clients : All (λ (step : Step). IsAct step.act) steps

-- ---- faults

-- the limits are others, keep aside
abbrev pub LimitsDiffer : Limits → Limits → Type 0
LimitsDiffer its own = (its.slots ≢ own.slots) ⊎ ((its.items ≢ own.items) ⊎ (its.clients ≢ own.clients))

-- a journal has other limits than the config
abbrev pub SomeLimitsDiffer : Closed → ℕ → Limits → Type 0
SomeLimitsDiffer closed tenant limits =
    (partition : ℕ) × (journal : Journal) × (journal_of_closed closed tenant partition ≡ Some journal)
    × LimitsDiffer journal.limits limits

-- some front ends with a step at which the run differs
pub record DiffersSomewhere (input : Input) : Type 0 where
  pub older : Trace
  pub last : TracedStep
  pub front : IsFront input older
  pub free : IsFree input older last
  pub differs : Agrees input older last → ⊥

-- some front leaves steps, and none is free, though each next event whose seat is over was sent by it
pub record IsStuck (input : Input) : Type 0 where
  pub trace : Trace
  pub front : IsFront input trace
  pub left : TakesAll input trace → ⊥
  pub none : NoneIsFree input trace
  pub sent : (partition : ℕ) → IsUnsentAt input trace partition → ⊥

-- an event whose seat has taken all its steps without sending a call of that number, where nothing is free
pub record IsUnsent (input : Input) : Type 0 where
  pub trace : Trace
  pub front : IsFront input trace
  pub none : NoneIsFree input trace
  pub partition : ℕ
  pub unsent : IsUnsentAt input trace partition

abbrev pub LacksJournal : Closed → ℕ → Type 0
LacksJournal closed tenant =
    (partition : ℕ) × (partition < closed.config.parts) × (journal_of_closed closed tenant partition ≡ None)

-- a journal is not in its first epoch, or that did not begin with nothing: what it returned before is not there
abbrev pub LacksEpochs : Closed → ℕ → Type 0
LacksEpochs closed tenant =
    (partition : ℕ) × (journal : Journal) × (journal_of_closed closed tenant partition ≡ Some journal)
    × (epoch_start_of journal ≢ (new_account journal.limits).start)

-- a seat's event has no transcript
pub record LacksTranscript (input : Input) : Type 0 where
  pub partition : ℕ
  pub n : ℕ
  pub event : Event
  pub there : slice_get (events_of_partition input partition) n ≡ Some event
  pub seat : event.seat ≢ 0
  pub none : (place : ℕ) (transcript : Transcript) → IsTranscriptAt input place transcript
      → transcript.seat ≢ event.seat

-- a reply was taken whose event is not at its place
pub record LacksEvent (input : Input) : Type 0 where
  pub place : ℕ
  pub transcript : Transcript
  pub its : IsTranscriptAt input place transcript
  pub n : ℕ
  pub number : ℕ
  pub partition : ℕ
  pub event_place : ℕ
  pub reply : Reply
  pub there : slice_get transcript.entries.items n ≡ Some (Took number partition event_place reply)
  pub none : IsEventOf (events_of_partition input partition) transcript.seat number event_place → ⊥

abbrev pub IsFaulty : Closed → ℕ → Limits → SettleFault → Type 0
IsFaulty closed tenant limits NoTenant = ⊥
IsFaulty closed tenant limits Missing =
    LacksJournal closed tenant
    ⊎ (LacksTranscript (input_of closed tenant limits)
    ⊎ (LacksEvent (input_of closed tenant limits)
    ⊎ (IsUnsent (input_of closed tenant limits) ⊎ LacksEpochs closed tenant)))
IsFaulty closed tenant limits Mismatch =
    SomeLimitsDiffer closed tenant limits ⊎ DiffersSomewhere (input_of closed tenant limits)
IsFaulty closed tenant limits Stuck = IsStuck (input_of closed tenant limits)
IsFaulty closed tenant limits OutOfMemory = Unit {0}

-- what is come to where a step was not taken: no list, where a message may have been lost that the step delivers
abbrev pub ended_by : StepFault → Result (Option (Vec Step)) SettleFault
ended_by Differs = Err Mismatch
ended_by Lost = Ok None
ended_by NoMemory = Err OutOfMemory

-- a list that settles, or a fault that shows in what was left; no list, where messages are lost and one is asked for again
abbrev pub ComesTo : Closed → ℕ → Limits → Bool → Result (Option (Vec Step)) SettleFault → Type 0
ComesTo closed tenant limits loses result =
    MatchResult result (λ found. IfSome found (λ steps. Settles (input_of closed tenant limits) steps.items))
    (IsFaulty closed tenant limits)
    × IfOk result (λ found. IfNone found (loses ≡ true))

-- ---- the verdict

abbrev pub IsVerdictFor : Closed → ℕ → Option Limits → Result (Vec Step) SettleFault → Type 0
IsVerdictFor closed tenant None verdict = verdict ≡ Err NoTenant
IsVerdictFor closed tenant (Some limits) (Ok steps) = Settles (input_of closed tenant limits) steps.items
IsVerdictFor closed tenant (Some limits) (Err fault) = IsFaulty closed tenant limits fault

-- the tenant's limits
abbrev pub limits_at : Closed → ℕ → Option Limits
limits_at closed tenant = slice_get closed.config.limits.items tenant
