-- What a transcript says that its client did, step by step.
use Rattle.std.specs.Prelude.{ℕ, ◌+◌, List, [], ◌∷◌, zero, suc, slice_get, Option, Some, None}
use Rattle.settle.specs.Words.{Act, Answer, Ready, Reply}
use Rattle.entry_list.specs.declared.kinds.Entry.{Entry}
use Rattle.entry_list.specs.declared.kinds.Entry.TheVariants.{Began, Took, Answered}
use Rattle.closed_store.specs.declared.transcript.Transcript.{Transcript}

-- the session begins, begins a transaction or a step of a raise, takes the reply to its call of a number, whose event stands at
-- a place of a partition's journal, or ends
pub data Doing : Type 0 where
  Greets : Doing
  Begins : Act → Doing
  Takes : (number partition place : ℕ) → Reply → Doing
  Leaves : Doing

-- the reply that is taken
abbrev pub reply_taken : Doing → Option Reply
reply_taken Greets = None
reply_taken (Begins act) = None
reply_taken (Takes number partition place reply) = Some reply
reply_taken Leaves = None

-- what was done with an entry; one that notes an answer does nothing
abbrev pub doing_of : Entry → Option Doing
doing_of (Began act) = Some (Begins act)
doing_of (Took number partition place reply) = Some (Takes number partition place reply)
doing_of (Answered answer) = None

-- noted: what the transcript says that this was answered
pub record TranscriptItem : Type 0 where
  pub doing : Doing
  pub noted : List Answer

-- the answers that were noted before anything else was done
abbrev pub noted : List Entry → List Answer
noted [] = []
noted (Answered answer ∷ entries) = answer ∷ noted entries
noted (Began act ∷ entries) = []
noted (Took number partition place reply ∷ entries) = []

abbrev pub items_of : List Entry → List TranscriptItem
items_of [] = record { doing = Leaves; noted = [] } ∷ []
items_of (Answered answer ∷ entries) = items_of entries
items_of (Began act ∷ entries) = record { doing = Begins act; noted = noted entries } ∷ items_of entries
items_of (Took number partition place reply ∷ entries) =
    record { doing = Takes number partition place reply; noted = noted entries } ∷ items_of entries

-- how many of the entries are things done, which no noted answer is
abbrev pub count_done : List Entry → ℕ
count_done [] = 0
count_done (Answered answer ∷ entries) = count_done entries
count_done (Began act ∷ entries) = count_done entries + 1
count_done (Took number partition place reply ∷ entries) = count_done entries + 1

-- from the hello, which was answered the counter, to the stop
abbrev pub program_of : Transcript → List TranscriptItem
program_of transcript =
    record { doing = Greets; noted = Ready transcript.counter ∷ noted transcript.entries.items }
    ∷ items_of transcript.entries.items

-- the element at a place, from 1 on
abbrev pub at_place : {X : Type 0} → List X → ℕ → Option X
at_place xs zero = None
at_place xs (suc n) = slice_get xs n
