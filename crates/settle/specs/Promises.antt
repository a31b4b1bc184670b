-- What an operator may rely on where settle answers a list.
use Rattle.std.specs.Prelude.{◌≡◌, ℕ, List, [], ◌∷◌, ◌++◌, map, take, slice_get, Some}
use Rattle.plain_store.specs.Words.{Setup, Stamp}
use Rattle.plain_store.specs.History.{Moment, History, Transaction}
use Rattle.plain_store.specs.Run.{run, answer_to}
use Rattle.plain_store.specs.Laws.{IsAtomicAnswer, IsFalse, IsFreshAnswer, IsRightRestart, receiver}
use Rattle.plain_store.specs.Newest.{IsNewest}
use Rattle.entry_list.specs.declared.kinds.Entry.TheVariants.{Answered}
use Rattle.closed_store.specs.declared.transcript.Transcript.{Transcript}
use Rattle.settle.specs.Words.{Act, Put, Answer, PutBegun, Done, Rows, Item, Step}
use Rattle.settle.specs.Input.{Input, setup_for}
use Rattle.settle.specs.Program.{TranscriptItem, count_done, program_of}
use Rattle.settle.specs.Fronts.{IsTranscriptAt}
use Rattle.settle.specs.Trace.{Trace, at_seat, acts_of}
use Rattle.settle.specs.Verdict.{IsTakenItem, Settles}

abbrev pub acts_in : List Step → List Act
acts_in steps = map (λ (step : Step). step.act) steps

-- a transcript of the tenant noted the answer in one of its entries
pub record IsNotedAt (input : Input) (place : ℕ) (transcript : Transcript) (entry : ℕ) (answer : Answer) : Type 0 where
  pub its : IsTranscriptAt input place transcript
  pub there : slice_get transcript.entries.items entry ≡ Some (Answered answer)

-- which of the transcript's items was done last before an entry; the first is the hello
abbrev pub item_before : Transcript → ℕ → ℕ
item_before transcript entry = count_done (take entry transcript.entries.items)

-- The answer of an entry is that of the step which its own transcript gave for what it did last before it. This step
-- stands in the list, and the plain store that took the steps before it answers it so, as a seat reports it.
pub record IsOwnAnswer (input : Input) (steps : List Step) (trace : Trace) (place : ℕ) (transcript : Transcript)
    (entry : ℕ) (answer : Answer) : Type 0 where
  pub item : TranscriptItem
  pub did : slice_get (program_of transcript) (item_before transcript entry) ≡ Some item
  pub taken : IsTakenItem input trace place transcript (item_before transcript entry) item
  -- the steps before it in the list, and those after it
  pub before : List Act
  pub later : List Act
  pub stands : acts_in steps ≡ before ++ taken.act ∷ later
  pub older : before ≡ acts_of input taken.older
  pub told : answer ≡ at_seat (answer_to (setup_for input) (run (setup_for input) [] before) taken.act)

-- so is each answer that a seat of the tenant noted
abbrev pub AnswersAreOwn : (input : Input) (steps : List Step) → Settles input steps → Type 0
AnswersAreOwn input steps settled =
    (place : ℕ) (transcript : Transcript) (entry : ℕ) (answer : Answer) → IsNotedAt input place transcript entry answer
    → IsOwnAnswer input steps settled.trace place transcript entry answer

-- P of each answer that a seat of the tenant noted, of its own step, and of the history that the steps before this one
-- in the list leave
abbrev pub EachAnswer : (Setup → History → Act → Answer → Type 0) → (input : Input) (steps : List Step)
    → Settles input steps → Type 0
EachAnswer P input steps settled =
    (place : ℕ) (transcript : Transcript) (entry : ℕ) (answer : Answer) → IsNotedAt input place transcript entry answer
    → (own : IsOwnAnswer input steps settled.trace place transcript entry answer)
    → P (setup_for input) (run (setup_for input) [] own.before) own.taken.act answer

-- each read and each list is read atomic
abbrev pub ReadsAreAtomic : (input : Input) (steps : List Step) → Settles input steps → Type 0
ReadsAreAtomic = EachAnswer (λ setup history act answer. IsAtomicAnswer history act answer)

-- no answer is false
abbrev pub NoneIsFalse : (input : Input) (steps : List Step) → Settles input steps → Type 0
NoneIsFalse = EachAnswer (λ setup history act answer. IsFalse answer → ⊥)

-- no read and no list is older than what a step was answered done that stands in the list before the reader's beginning
abbrev pub ReadsAreFresh : (input : Input) (steps : List Step) → Settles input steps → Type 0
ReadsAreFresh = EachAnswer (λ setup history act answer. IsFreshAnswer history act answer)

-- The stamp was drawn as a put of the client began, above each that was done, before this client began to read, for a
-- write of a key that it read.
pub record IsDrawnNewest (history : History) (client : ℕ) (stamp : Stamp) : Type 0 where
  pub items : List Item
  pub rows : Rows
  -- the step that began it, those after it, and those before it
  pub newer : History
  pub begins : Moment
  pub older : History
  pub stands : history ≡ newer ++ begins ∷ older
  pub puts : begins.act ≡ Put client items
  pub draws : begins.answer ≡ PutBegun stamp rows
  pub newest : IsNewest older client stamp

-- so was a stamp that is answered done, by the client that gets this answer; nothing is said of other answers
abbrev pub IsNewestDone : History → Act → Answer → Type 0
IsNewestDone history act (Done stamp) =
    (writer : Transaction) × (receiver history act ≡ Some writer) × IsDrawnNewest history writer.client stamp
IsNewestDone history act answer = Unit {0}

-- who read keys first and then wrote, wrote above all that was done at them before it began to read
abbrev pub WritesAreNewest : (input : Input) (steps : List Step) → Settles input steps → Type 0
WritesAreNewest = EachAnswer (λ setup history act answer. IsNewestDone history act answer)

-- a reader restarts only where what it asked for was outrun
abbrev pub RestartsAreRight : (input : Input) (steps : List Step) → Settles input steps → Type 0
RestartsAreRight = EachAnswer IsRightRestart
