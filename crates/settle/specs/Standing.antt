-- What progress stands for: the steps that were taken so far.
use Rattle.std.specs.Prelude.{◌++◌, ◌==◌, cond, ◌≡◌, ◌≢◌, ◌<◌, ◌≤◌, ℕ, List, [], ◌∷◌, map, drop, length, slice_get}
use Rattle.std.specs.Prelude.{All, Bool, true, false, IsTrue, Option, Some, None, MatchOption, Result, IfErr, OnOk, MatchResult}
use Rattle.std.specs.Global.{Vec}
use Rattle.closed_store.specs.declared.closed.Closed.{Closed}
use Rattle.entry_list.specs.declared.kinds.Entry.{Entry}
use Rattle.closed_store.specs.declared.transcript.Transcript.{Transcript}
use Rattle.settle.specs.declared.step_fault.StepFault.{StepFault}
use Rattle.settle.specs.declared.step_fault.StepFault.TheVariants.{Mismatch, Lost, OutOfMemory}
use Rattle.settle.specs.declared.progress.TranscriptState.{TranscriptState}
use Rattle.settle.specs.declared.progress.TranscriptState.TheVariants.{Waiting, Open, Over}
use Rattle.settle.specs.declared.progress.Progress.{Progress}
use Rattle.plain_store.specs.Words.{Setup}
use Rattle.plain_store.specs.History.{History, message_at, keep_in}
use Rattle.settle.specs.declared.next_step.Next.{Next}
use Rattle.settle.specs.declared.next_step.Source.{Source}
use Rattle.settle.specs.declared.next_step.Source.TheVariants.{Transcript as FromTranscript, Journal as FromJournal}
use Rattle.settle.specs.Words.{Act, Deliver, CollectAt, Answer, Replied, Freed, Call, Collect, Reply, ToCollect}
use Rattle.settle.specs.Words.{Message}
use Rattle.settle.specs.Input.{Input, input_of, transcripts_in, events_of_partition}
use Rattle.settle.specs.Program.{TranscriptItem, Doing, reply_taken, noted, items_of, program_of}
use Rattle.settle.specs.Trace.{Origin, OfTranscript, OfJournal, at_seat, Trace, after, ready, acts_of, acts_before}
use Rattle.settle.specs.Trace.{times, call_rows, replies_sent}
use Rattle.settle.specs.Fronts.{IsTranscriptAt, IsNextItem, IsReplyRow, IsOver, Gives, NoneIsFree}
use Rattle.settle.specs.Fronts.{MayTake, AgreesAt}
use Rattle.settle.specs.Fronts.{IsFront, AllAgree}
use Rattle.settle.specs.Replaying.{step_of, KeepsSettings, Plays}

-- ---- transcripts

-- what a transcript still gives
abbrev pub rest_of : Transcript → TranscriptState → List TranscriptItem
rest_of transcript Waiting = program_of transcript
rest_of transcript (Open read) = items_of (drop read transcript.entries.items)
rest_of transcript Over = []

-- no noted answer is left to compare with what was done last
abbrev pub IsCompared : Transcript → TranscriptState → Type 0
IsCompared transcript Waiting = Unit {0}
IsCompared transcript (Open read) = noted (drop read transcript.entries.items) ≡ []
IsCompared transcript Over = Unit {0}

pub record IsAt (trace : Trace) (place : ℕ) (transcript : Transcript) (stage : TranscriptState) : Type 0 where
  pub rest : drop (times (OfTranscript place) trace) (program_of transcript) ≡ rest_of transcript stage
  pub compared : IsCompared transcript stage

-- every answer is this one
abbrev pub AreAll : Answer → List Answer → Type 0
AreAll answer answers = All (λ other. other ≡ at_seat answer) answers

-- the place in the entries up to which the noted answers were compared
pub record IsNoted (entries : List Entry) (from : ℕ) (answer : Answer) (place : ℕ) : Type 0 where
  pub all : AreAll answer (noted (drop from entries))
  pub same : items_of (drop place entries) ≡ items_of (drop from entries)
  pub none : noted (drop place entries) ≡ []

-- the transcript's next item was answered as it says, and the stage is the one after it
pub record Advances (of : Transcript) (stage : TranscriptState) (item : TranscriptItem) (answer : Answer) (next : TranscriptState) : Type 0 where
  pub all : AreAll answer item.noted
  pub rest : drop 1 (rest_of of stage) ≡ rest_of of next
  pub compared : IsCompared of next

-- ---- seats

-- the tenant's transcript of the seat
abbrev pub IsOfSeat : ℕ → ℕ → Transcript → Type 0
IsOfSeat tenant seat transcript = (transcript.tenant ≡ tenant) × (transcript.seat ≡ seat)

-- no transcript before the place is the tenant's of the seat
abbrev pub NoneOfSeat : List Transcript → ℕ → ℕ → ℕ → Type 0
NoneOfSeat transcripts tenant seat before =
    (place : ℕ) (transcript : Transcript) → place < before → slice_get transcripts place ≡ Some transcript
    → IsOfSeat tenant seat transcript → ⊥

-- the place of the tenant's first transcript of the seat
pub record IsSlot (transcripts : List Transcript) (tenant seat slot : ℕ) : Type 0 where
  pub transcript : Transcript
  pub there : slice_get transcripts slot ≡ Some transcript
  pub its : IsOfSeat tenant seat transcript
  pub first : NoneOfSeat transcripts tenant seat slot

-- ---- rows

-- rows were added to the list at a place, and to no other
pub record IsPushed (old new : List (Vec ℕ)) (place : ℕ) (more : List ℕ) : Type 0 where
  pub here : (after : Vec ℕ) → slice_get new place ≡ Some after
      → (before : Vec ℕ) × (slice_get old place ≡ Some before) × (after.items ≡ before.items ++ more)
  pub others : (k : ℕ) → k ≢ place → slice_get new k ≡ slice_get old k

-- ---- progress

-- there is a stage and a list of rows for each transcript, and a list of rows for each partition
pub record IsSized (closed : Closed) (progress : Progress) : Type 0 where
  pub stages : length progress.stages.items ≡ length closed.transcripts.items
  pub sent : length progress.sent.items ≡ length closed.transcripts.items
  pub replies : length progress.replies.items ≡ closed.config.parts

-- there is such a transcript, or such a partition
abbrev pub IsWithin : Closed → Origin → Type 0
IsWithin closed (OfTranscript place) = place < length closed.transcripts.items
IsWithin closed (OfJournal partition) = partition < closed.config.parts

-- for each partition the rows of the replies to its events
abbrev pub AreReplies : Input → Trace → Progress → Type 0
AreReplies input trace progress =
    (partition : ℕ) (rows : Vec ℕ) → slice_get progress.replies.items partition ≡ Some rows
    → rows.items ≡ replies_sent input partition trace

-- what was noted of the steps that were taken; the store took these acts, which lead to the history
pub record IsNotedWith (input : Input) (trace : Trace) (acts : List Act) (history : History) (progress : Progress)
    : Type 0 where
  pub replays : Plays input acts history progress.replay
  pub stages : (place : ℕ) (transcript : Transcript) (stage : TranscriptState) → IsTranscriptAt input place transcript
      → slice_get progress.stages.items place ≡ Some stage → IsAt trace place transcript stage
  pub sent : (seat slot : ℕ) (rows : Vec ℕ) → IsSlot (transcripts_in input) input.tenant seat slot
      → slice_get progress.sent.items slot ≡ Some rows → rows.items ≡ call_rows input seat trace
  pub replies : AreReplies input trace progress

abbrev pub IsNotedOf : Input → Trace → Progress → Type 0
IsNotedOf input trace progress = IsNotedWith input trace (acts_of input trace) (after input trace) progress

-- the Keep step before a step of this origin was taken too
abbrev pub IsNotedReady : Input → Trace → Origin → Progress → Type 0
IsNotedReady input trace origin progress =
    IsNotedWith input trace (acts_before input trace origin) (ready input trace origin) progress

-- the steps were taken, each free in its turn, and the run agrees with each
pub record HasTakenSteps (input : Input) (trace : Trace) (progress : Progress) : Type 0 where
  pub noted : IsNotedOf input trace progress
  pub steps : progress.steps.items ≡ map (step_of input.tenant) (acts_of input trace)
  pub front : IsFront input trace
  pub agree : AllAgree input trace

-- this holds of each run of a tenant's input whose steps were taken, or whose acts were noted at least
abbrev pub AfterItsSteps : Closed → ℕ → Progress → (Input → Trace → Type 0) → Type 0
AfterItsSteps closed tenant progress P =
    let input = input_of closed tenant progress.replay.limits in
    (trace : Trace) → HasTakenSteps input trace progress → P input trace

abbrev pub AfterNoted : Closed → ℕ → Progress → (Input → Trace → Type 0) → Type 0
AfterNoted closed tenant progress P =
    let input = input_of closed tenant progress.replay.limits in
    (trace : Trace) → IsNotedOf input trace progress → P input trace

-- of each run of a tenant's input whose steps were taken, the test says whether this is so
pub record TellsWhether (closed : Closed) (tenant : ℕ) (progress : Progress) (test : Bool) (P : Input → Trace → Type 0) : Type 0 where
  pub over : AfterItsSteps closed tenant progress (λ input trace. IsTrue test → P input trace)
  pub left : AfterItsSteps closed tenant progress (λ input trace. test ≡ false → P input trace → ⊥)

-- and the Keep step before a step of this origin too
pub record IsReady (input : Input) (trace : Trace) (origin : Origin) (progress : Progress) : Type 0 where
  pub noted : IsNotedReady input trace origin progress
  pub steps : progress.steps.items ≡ map (step_of input.tenant) (acts_before input trace origin)
  pub front : IsFront input trace
  pub agree : AllAgree input trace

-- ---- what a step brings to a partition

abbrev pub call_in : ℕ → Option Message → Option Call
call_in partition None = None
call_in partition (Some message) = cond (message.partition == partition) (Some message.call) None

-- the call that a step would bring to a partition; a collection is given the partition by its journal
abbrev pub call_coming : Setup → History → ℕ → Act → Option Call
call_coming setup history partition (Deliver row) = call_in partition (message_at history row)
call_coming setup history partition (CollectAt p) =
    cond (p == partition) (Some (Collect (keep_in setup history))) None
call_coming setup history partition act = None

-- the reply that an answer reports
abbrev pub reply_told : Answer → Option Reply
reply_told (Replied row reply) = Some reply
reply_told (Freed count) = Some (ToCollect count)
reply_told answer = None

-- ---- what comes next

-- where a step is found
abbrev pub origin_of : Source → Origin
origin_of (FromTranscript place) = OfTranscript place
origin_of (FromJournal partition seat) = OfJournal partition

-- the reply is the one that the transcript takes next, if it takes one
abbrev pub IsNextReply : Input → Trace → ℕ → Option Reply → Type 0
IsNextReply input trace place reply =
    (transcript : Transcript) (item : TranscriptItem) → IsTranscriptAt input place transcript
    → IsNextItem trace place transcript item → reply ≡ reply_taken item.doing

-- the step may be taken next
abbrev pub IsNextStep : Input → Trace → Next → Type 0
IsNextStep input trace next = MayTake input trace (origin_of next.source) next.act

-- the step may be taken next; none where nothing of this origin may
abbrev pub Chooses : Input → Trace → Origin → Option Next → Type 0
Chooses input trace origin None = (act : Act) → MayTake input trace origin act → ⊥
Chooses input trace origin (Some next) = IsNextStep input trace next

-- the step is what the transcript gives for this; none where nothing can be given
abbrev pub GivesNow : Input → Trace → ℕ → Transcript → Doing → Option Next → Type 0
GivesNow input trace place transcript doing None = (act : Act) → Gives input trace place transcript doing act → ⊥
GivesNow input trace place transcript doing (Some next) =
    (next.source ≡ FromTranscript place) × Gives input trace place transcript doing next.act

-- the row is that of the reply to a seat's call of a number; none where it has not come
abbrev pub RepliesNow : Input → Trace → (seat number partition place : ℕ) → Option ℕ → Type 0
RepliesNow input trace seat number partition place row =
    MatchOption row ((r : ℕ) → IsReplyRow input trace seat number partition place r → ⊥)
    (IsReplyRow input trace seat number partition place)

-- none of the first so many origins has a step that may be taken
abbrev pub NoneOfFirst : Input → Trace → (ℕ → Origin) → ℕ → Type 0
NoneOfFirst input trace origin count = (k : ℕ) → k < count → (act : Act) → MayTake input trace (origin k) act → ⊥

-- the transcript at a place is over, if it is the tenant's
abbrev pub IsOverOf : Input → Trace → ℕ → Type 0
IsOverOf input trace place =
    (transcript : Transcript) → IsTranscriptAt input place transcript → IsOver trace place transcript

-- all events of a partition were taken
abbrev pub IsDone : Input → Trace → ℕ → Type 0
IsDone input trace partition = length (events_of_partition input partition) ≤ times (OfJournal partition) trace

-- the step is one of these origins that may be taken next; none where none of the first so many has one
abbrev pub IsChoiceOf : Input → Trace → (ℕ → Origin) → ℕ → Option Next → Type 0
IsChoiceOf input trace origin count None = NoneOfFirst input trace origin count
IsChoiceOf input trace origin count (Some next) = IsNextStep input trace next

-- the step is one that may be taken next; none where none may
abbrev pub IsChoice : Input → Trace → Option Next → Type 0
IsChoice input trace None = NoneIsFree input trace
IsChoice input trace (Some next) = IsNextStep input trace next

-- no transcript of these places has a step that may be taken
abbrev pub NoneBetween : Input → Trace → ℕ → ℕ → Type 0
NoneBetween input trace first end =
    (k : ℕ) → first ≤ k → k < end → (act : Act) → MayTake input trace (OfTranscript k) act → ⊥

-- the step may be taken next; none where no transcript of these places has one
abbrev pub IsChoiceBetween : Input → Trace → ℕ → ℕ → Option Next → Type 0
IsChoiceBetween input trace first end None = NoneBetween input trace first end
IsChoiceBetween input trace first end (Some next) = IsNextStep input trace next

-- the step, if there is one, may be taken next
abbrev pub MayBeNext : Input → Trace → Option Next → Type 0
MayBeNext input trace None = Unit {0}
MayBeNext input trace (Some next) = IsNextStep input trace next

-- the step that was chosen is of a transcript or a partition that is there
abbrev pub IsWithinNext : Closed → Option Next → Type 0
IsWithinNext closed None = Unit {0}
IsWithinNext closed (Some next) = IsWithin closed (origin_of next.source)

-- a search chose this: of each run of a tenant's input whose steps were taken it is so, and what was chosen is there
pub record IsChosen (closed : Closed) (tenant : ℕ) (progress : Progress) (P : Input → Trace → Option Next → Type 0) (next : Option Next)
    : Type 0 where
  pub choice : AfterItsSteps closed tenant progress (λ input trace. P input trace next)
  pub within : IsWithinNext closed next

-- this was done, or there was no memory
pub record DoneOrNoMemory (result : Result (Unit {0}) StepFault) (P : Type 0) : Type 0 where
  pub ok : OnOk result P
  pub err : IfErr result (λ fault. fault ≡ OutOfMemory)

-- the list at a place has this more, or there was no memory; there are as many lists as before
pub record PushesAt (place : ℕ) (more : List ℕ) (old new : List (Vec ℕ)) (result : Result (Unit {0}) StepFault)
    : Type 0 where
  pub pushed : DoneOrNoMemory result (IsPushed old new place more)
  pub len : length new ≡ length old

-- the lists are as many as before, the limits are the same, and messages are lost or kept as before
pub record KeepsSize (old new : Progress) : Type 0 where
  pub sized : (closed : Closed) → IsSized closed old → IsSized closed new
  pub settings : KeepsSettings old.replay new.replay

-- and the steps are the same
pub record KeepsSteps (old new : Progress) : Type 0 where
  pub size : KeepsSize old new
  pub steps : new.steps ≡ old.steps

-- the run differs at the step, a store that loses messages may have lost the one that the step delivers, or there was no
-- memory
abbrev pub FaultsAt : Input → Trace → Origin → Act → Bool → StepFault → Type 0
FaultsAt input trace origin act loses Mismatch = AgreesAt input trace origin act → ⊥
FaultsAt input trace origin act loses Lost = loses ≡ true
FaultsAt input trace origin act loses OutOfMemory = Unit {0}

-- Whatever steps progress noted, the Keep step before this one among them, it notes one that may be taken next, with
-- what is next of its origin, or says why it can't.
abbrev pub NotesOne : Input → Origin → Act → (Trace → Type 0) → Progress → Progress → Result (Unit {0}) StepFault → Type 0
NotesOne input origin act IsNext old new result =
    (trace : Trace) → IsNotedReady input trace origin old → MayTake input trace origin act → IsNext trace
    → MatchResult result
    (λ _. IsNotedOf input (record { origin = origin; act = act } ∷ trace) new × AgreesAt input trace origin act)
    (FaultsAt input trace origin act old.replay.loses)

-- if progress stands for these steps, it takes one that may be taken next, or says why it can't
abbrev pub TakesOneAfter : Input → Trace → Origin → Act → Progress → Progress → Result (Unit {0}) StepFault → Type 0
TakesOneAfter input trace origin act old new result =
    HasTakenSteps input trace old → MayTake input trace origin act
    → MatchResult result (λ _. HasTakenSteps input (record { origin = origin; act = act } ∷ trace) new)
    (FaultsAt input trace origin act old.replay.loses)

-- whatever steps progress stands for, it does so
abbrev pub TakesOne : Input → Origin → Act → Progress → Progress → Result (Unit {0}) StepFault → Type 0
TakesOne input origin act old new result = (trace : Trace) → TakesOneAfter input trace origin act old new result

-- it takes such a step, the lists are as many as before, the limits are the same, and messages are lost or kept as before
pub record TakesStep (closed : Closed) (tenant : ℕ) (origin : Origin) (act : Act) (old new : Progress)
    (result : Result (Unit {0}) StepFault) : Type 0 where
  pub takes : TakesOne (input_of closed tenant old.replay.limits) origin act old new result
  pub sized : IsSized closed new
  pub settings : KeepsSettings old.replay new.replay
