-- How an entry is packed, and what is read of it.
use Rattle.std.specs.Prelude.{◌≡◌, ◌<◌, ◌^◌, ◌∷◌, ◌++◌, ◌==◌, ℕ, List, map, Option, Some, None, if◌then◌else◌}
use Rattle.std.specs.List.{AllByRecursion}
use Rattle.plain_store.specs.declared.step.Act.{Act}
use Rattle.plain_store.specs.declared.step.Act.TheVariants.{Put, Get, Find}
use Rattle.plain_store.specs.declared.answer.Answer.{Answer}
use Rattle.plain_store.specs.declared.answer.Answer.TheVariants.{Ignored}
use Rattle.packed.specs.Packing.{packed_number}
use Rattle.packed_steps.specs.PackedCalls.{packed_reply, IsStoreReply}
use Rattle.packed.specs.Reading.{◌>>=◌, byte_at, number_at, count_at}
use Rattle.packed_steps.specs.PackedCalls.{reply_at}
use Rattle.packed_steps.specs.PackedActs.{packed_act, IsStoreAct, act_at}
use Rattle.packed_steps.specs.PackedAnswers.{packed_answer, IsStoreAnswer, answer_at}
use Rattle.entry_list.specs.declared.kinds.Taken.{Taken}
use Rattle.entry_list.specs.declared.kinds.Operation.{Operation}
use Rattle.entry_list.specs.declared.kinds.Operation.TheVariants.{Put as OfPut, Get as OfGet, Find as OfFind}
use Rattle.entry_list.specs.declared.kinds.Entry.{Entry}
use Rattle.entry_list.specs.declared.kinds.Entry.TheVariants.{Began, Took, Answered}

-- a byte for the kind, and its parts
abbrev pub packed_entry : Entry → List ℕ
packed_entry (Began act) = 0 ∷ packed_act act
packed_entry (Took number partition place reply) =
    1 ∷ packed_number number ++ packed_number partition ++ packed_number place ++ packed_reply reply
packed_entry (Answered answer) = 2 ∷ packed_answer answer

-- what each reply that was taken meets
pub record IsStoreTaken (t : Taken) : Type 0 where
  pub number : t.number < 2 ^ 64
  pub partition : t.partition < 2 ^ 32
  pub place : t.place < 2 ^ 64
  pub reply : IsStoreReply t.reply

-- what each entry of the store meets
abbrev pub IsStoreEntry : Entry → Type 0
IsStoreEntry (Began act) = IsStoreAct act
IsStoreEntry (Took number partition place reply) =
    IsStoreTaken (record { number = number; partition = partition; place = place; reply = reply })
IsStoreEntry (Answered answer) = IsStoreAnswer answer

-- ---- what is read

unfoldable pub began_at : List ℕ → Option Entry
began_at bytes = do
  act ← act_at bytes
  Some (Began act.0)

unfoldable pub taken_at : List ℕ → Option Taken
taken_at bytes = do
  number ← number_at bytes
  partition ← count_at number.1
  place ← number_at partition.1
  reply ← reply_at place.1
  Some (record { number = number.0; partition = partition.0; place = place.0; reply = reply.0 })

unfoldable pub took_at : List ℕ → Option Entry
took_at bytes = do
  taken ← taken_at bytes
  Some (Took taken.number taken.partition taken.place taken.reply)

unfoldable pub answered_at : List ℕ → Option Entry
answered_at bytes = do
  answer ← answer_at bytes
  Some (Answered answer.0)

-- the parts of this kind
unfoldable pub entry_by : ℕ → List ℕ → Option Entry
entry_by kind bytes =
    if kind == 0 then began_at bytes
    else (if kind == 1 then took_at bytes
    else (if kind == 2 then answered_at bytes
    else None))

unfoldable pub entry_at : List ℕ → Option Entry
entry_at bytes = do
  kind ← byte_at bytes
  entry_by kind.0 kind.1

-- the reply that was taken, if the entry is that
abbrev pub taken_of : Entry → Option Taken
taken_of (Took number partition place reply) =
    Some (record { number = number; partition = partition; place = place; reply = reply })
taken_of entry = None

unfoldable pub taken_part : List ℕ → Option Taken
taken_part bytes = do
  kind ← byte_at bytes
  if kind.0 == 1 then taken_at kind.1 else None

-- what was answered, if the entry is that
abbrev pub answer_of : Entry → Option Answer
answer_of (Answered answer) = Some answer
answer_of entry = None

unfoldable pub answer_alone : List ℕ → Option Answer
answer_alone bytes = do
  answer ← answer_at bytes
  Some answer.0

unfoldable pub answer_part : List ℕ → Option Answer
answer_part bytes = do
  kind ← byte_at bytes
  if kind.0 == 2 then answer_alone kind.1 else None

-- what an act does, if it is one that a seat begins an operation with
abbrev pub operation_of_act : Act → Option Operation
operation_of_act (Put client items) = Some OfPut
operation_of_act (Get client keys) = Some OfGet
operation_of_act (Find client tag) = Some OfFind
operation_of_act act = None

-- what the operation that was begun does, if the entry is that
abbrev pub operation_of : Entry → Option Operation
operation_of (Began act) = operation_of_act act
operation_of entry = None

abbrev pub operation_by : ℕ → Option Operation
operation_by form =
    if form == 1 then Some OfPut
    else (if form == 2 then Some OfGet
    else (if form == 3 then Some OfFind
    else None))

unfoldable pub operation_part : List ℕ → Option Operation
operation_part bytes = do
  kind ← byte_at bytes
  form ← byte_at kind.1
  if kind.0 == 0 then operation_by form.0 else None

-- ---- lists of packed entries

abbrev pub entry_or : Entry → Option Entry → Entry
entry_or other None = other
entry_or other (Some e) = e

-- the entry that the bytes are packed of; of other bytes, any
abbrev pub entry_in : List ℕ → Entry
entry_in bytes = entry_or (Answered Ignored) (entry_at bytes)

-- the bytes are those of an entry, and nothing else
abbrev pub IsPackedEntry : List ℕ → Type 0
IsPackedEntry bytes = IsStoreEntry (entry_in bytes) × (bytes ≡ packed_entry (entry_in bytes))

abbrev pub ArePackedEntries : List (List ℕ) → Type 0
ArePackedEntries = AllByRecursion IsPackedEntry

abbrev pub entries_in : List (List ℕ) → List Entry
entries_in = map entry_in

-- what contracts see of a list of entries: the entries in order, and for how many replies there is room
pub record EntriesView : Type 0 where
  pub items : List Entry
  pub room : ℕ
