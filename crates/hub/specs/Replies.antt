-- What a seat answers, by the replies that its operation entered.
use Rattle.std.specs.Prelude.{◌≡◌, ◌<◌, ◌≤◌, ◌+◌, ◌⊎◌, ℕ, List, [], ◌∷◌, ◌++◌, Option, Some, None, All}
use Rattle.stamps.specs.Stamp.{stamp}
use Rattle.stamps.specs.declared.record.Item.{Item}
use Rattle.plain_store.specs.declared.answer.Answer.{Answer}
use Rattle.plain_store.specs.declared.answer.Answer.TheVariants.{Done, Read, Listed, Restart, Ended, Refused}
use Rattle.plain_store.specs.declared.calls.Call.{Call}
use Rattle.plain_store.specs.declared.calls.Call.TheVariants.{Prepare, Commit}
use Rattle.plain_store.specs.declared.message.Message.{Message}
use Rattle.plain_store.specs.declared.reading.Reading.{Reading}
use Rattle.plain_store.specs.Words.{Key, Stamp, Tag, Setup}
use Rattle.plain_store.specs.History.{Intent as Asked, Writes, Gets, Finds}
use Rattle.plain_store.specs.Moves.{Finishes, Lists, Restarts, Fails, Move as PlainMove, Reads as ReadsAll}
use Rattle.entry_list.specs.declared.kinds.Entry.{Entry}
use Rattle.entry_list.specs.declared.kinds.Entry.TheVariants.{Began, Took, Answered}
use Rattle.tenant_sessions.specs.declared.running.Running.{Running}
use Rattle.tenant_sessions.specs.declared.moves.Move.{Move}
use Rattle.tenant_sessions.specs.declared.moves.Move.TheVariants.{Ignored}
use Rattle.tenant_sessions.specs.Showing.{IsCallFor, IsWritersAnswer, IsReadersAnswer, IsFindersAnswer, IsAnswerTo, IsMoveAt, IsShown}
use Rattle.tenant_sessions.specs.Showing.{plain_move}
use Rattle.history.specs.declared.entry.Mark.{Mark}
use Rattle.shard.specs.Journals.{IsServedIn}
use Rattle.hub.specs.Sights.{OperationSight, SeatSight}
use Rattle.hub.specs.declared.seat_request.SeatRequest.{SeatRequest}
use Rattle.hub.specs.declared.seat_request.SeatRequest.TheVariants.{Put, Get, Find}
use Rattle.hub.specs.Requests.{intent_of}

-- ---- which replies are entered

-- A reply that this session entered was given to its call of that number, at that place of a journal of the partition, and of the
-- history that its seat has seen. It is one of those behind the first so many, up to the last.
abbrev pub IsServedFor : SeatSight → (first last : ℕ) → Entry → Type 0
IsServedFor sight first last (Began act) = Unit {0}
IsServedFor sight first last (Took number partition place reply) =
    (first < number) × (number ≤ last)
    × ∥ ((call : Call) × (mark : Mark) × IsServedIn sight.seen mark partition sight.tenant sight.seat number place call reply) ∥₁
IsServedFor sight first last (Answered answer) = Unit {0}

-- the entries so far, and others, each reply among which was so given
pub record AreServed (sight : SeatSight) (first last : ℕ) (start entries : List Entry) : Type 0 where
  pub more : List Entry
  pub is : entries ≡ start ++ more
  pub served : All (IsServedFor sight first last) more

-- ---- what is answered by them

-- a PREPARE or a COMMIT is under this stamp
abbrev pub IsUnder : Stamp → Call → Type 0
IsUnder own (Prepare version) = version.stamp ≡ own
IsUnder own (Commit stamp) = stamp ≡ own
IsUnder own call = Unit {0}

-- it may be a call of what was asked: a write makes those under its own stamp
abbrev pub IsOf : Asked → Call → Type 0
IsOf (Writes own items) call = IsUnder own call
IsOf (Gets keys) call = Unit {0}
IsOf (Finds tag) call = Unit {0}

-- The message has the reply of this entry, which this session's call of that number was given at that place of a journal of the
-- partition, and of the history that its seat has seen, behind the mark of its operation. That call is one of what was asked, and is
-- the message's, but for its stamp, and so is the partition.
abbrev pub IsReplyIn : OperationSight → Asked → Message → Entry → Type 0
IsReplyIn sight asked message (Began act) = ⊥
IsReplyIn sight asked message (Took number partition place reply) =
    (message.reply ≡ Some reply)
    × ∥ ((call : Call) × IsCallFor call message.call × IsOf asked call
    × IsServedIn sight.seen sight.mark partition sight.tenant sight.seat number place call reply) ∥₁
    × (message.partition ≡ partition)
IsReplyIn sight asked message (Answered answer) = ⊥

-- the messages have, in order, replies among those entered
abbrev pub AreAmong : OperationSight → Asked → List Message → List Entry → Type 0
AreAmong sight asked [] entries = Unit {0}
AreAmong sight asked (message ∷ messages) [] = ⊥
AreAmong sight asked (message ∷ messages) (entry ∷ entries) =
    (IsReplyIn sight asked message entry × AreAmong sight asked messages entries)
    ⊎ AreAmong sight asked (message ∷ messages) entries

-- What is reported answers replies that were entered after these entries, in their order: those that the session took.
-- Answers: those before the last, and the last
pub record IsFromReplies (sight : OperationSight) (asked : Asked) (start entries : List Entry)
    (Answers : List Message → Message → Type 0) : Type 0 where
  pub more : List Entry
  pub is : entries ≡ start ++ more
  pub taken : List Message
  pub last : Message
  pub among : AreAmong sight asked (taken ++ last ∷ []) more
  pub answers : Answers taken last

-- That the write of these items under this stamp is done is the writer's answer to them, which were given to calls under that
-- stamp: each item's PREPARE was accepted, and the COMMIT done at each home.
abbrev pub IsWriteOf : OperationSight → Setup → Stamp → List Item → List Entry → List Entry → Type 0
IsWriteOf sight setup own items start entries =
    IsFromReplies sight (Writes own items) start entries (λ taken last. IsWritersAnswer setup own items taken last)

-- it is the reader's answer to them: what they showed, and unfractured by the write sets that they showed
abbrev pub IsReadOf : OperationSight → List Key → List Entry → List Entry → List Reading → Type 0
IsReadOf sight keys start entries told =
    IsFromReplies sight (Gets keys) start entries (λ taken last. IsReadersAnswer keys taken last told)

-- it is the finder's answer to them: of what they showed that which carries the tag, unfractured as well
abbrev pub IsListOf : OperationSight → Setup → Tag → List Entry → List Entry → List Reading → Type 0
IsListOf sight setup tag start entries told =
    IsFromReplies sight (Finds tag) start entries (λ taken last. IsFindersAnswer setup tag taken last told)

-- by what was asked
abbrev pub IsToldOf : OperationSight → Setup → Asked → List Entry → List Entry → List Reading → Type 0
IsToldOf sight setup asked start entries told =
    IsFromReplies sight asked start entries (λ taken last. IsAnswerTo setup asked taken last told)

-- the answer that reports a move of the plain store which ends what was asked; that of an end names no rows
abbrev pub answer_to : PlainMove → Option Answer
answer_to (Finishes stamp) = Some (Done stamp)
answer_to (ReadsAll readings) = Some (Read readings)
answer_to (Lists readings) = Some (Listed readings)
answer_to (Restarts key floor) = Some (Restart key floor)
answer_to (Fails refusal calls) = Some (Ended refusal None)
answer_to move = None

-- What is answered reports the plain store's move at the last of replies that were entered after these entries: so where it is
-- `restart` or `ended`, the plain store restarts or ends what was asked by the same replies.
abbrev pub IsMoveOf : OperationSight → Setup → Asked → List Entry → List Entry → Answer → Type 0
IsMoveOf sight setup asked start entries answer =
    IsFromReplies sight asked start entries
    (λ taken last. (move : PlainMove) × (plain_move setup asked taken last ≡ Some move) × (answer_to move ≡ Some answer))

-- what is said of an answer that is no refusal
abbrev pub IfRuns : Answer → Type 0 → Type 0
IfRuns (Refused refusal) P = Unit {0}
IfRuns answer P = P

-- so of a request, which writes under this stamp if it writes
abbrev pub IsMoveFor : OperationSight → ℕ → Stamp → SeatRequest → Answer → List Entry → List Entry → Type 0
IsMoveFor sight parts own request answer start entries =
    (setup : Setup) → setup.partitions ≡ parts → IfRuns answer (IsMoveOf sight setup (intent_of own request) start entries answer)

-- what is said of an answer that reports what was read; a read lists nothing
abbrev pub IfRead : Answer → (List Reading → Type 0) → Type 0
IfRead (Read told) P = P told
IfRead (Listed told) P = ⊥
IfRead answer P = Unit {0}

-- and of one that reports what was found; a search reads nothing
abbrev pub IfListed : Answer → (List Reading → Type 0) → Type 0
IfListed (Read told) P = ⊥
IfListed (Listed told) P = P told
IfListed answer P = Unit {0}

-- what is said of the stamp of an answer that reports that a write is done; a write reads and lists nothing
abbrev pub IfDone : Answer → (Stamp → Type 0) → Type 0
IfDone (Done stamp) P = P stamp
IfDone (Read told) P = ⊥
IfDone (Listed told) P = ⊥
IfDone answer P = Unit {0}

-- by what was asked; a write that is done reports its own stamp, and no reading
abbrev pub IfSays : Asked → Answer → (List Reading → Type 0) → Type 0
IfSays (Writes own items) answer P = IfDone answer (λ stamp. (stamp ≡ own) × P [])
IfSays (Gets keys) answer P = IfRead answer P
IfSays (Finds tag) answer P = IfListed answer P

-- the stamp is the next one of this client's, and its counter has gone on
abbrev pub IsDrawn : (client before after : ℕ) → Stamp → Type 0
IsDrawn client before after told = (told ≡ stamp (before + 1) client) × (before < after)

-- so of a request that writes under a stamp that was so drawn, reads keys, or searches so many partitions
abbrev pub IsToldFor : OperationSight → ℕ → (Stamp → Type 0) → SeatRequest → Answer → List Entry → List Entry → Type 0
IsToldFor sight parts Drawn (Put items) answer start entries =
    IfDone answer Drawn
    × ((setup : Setup) → setup.partitions ≡ parts
    → IfDone answer (λ own. IsWriteOf sight setup own items.now start entries))
IsToldFor sight parts Drawn (Get keys) answer start entries = IfRead answer (IsReadOf sight keys.now start entries)
IsToldFor sight parts Drawn (Find tag) answer start entries =
    (setup : Setup) → setup.partitions ≡ parts → IfListed answer (IsListOf sight setup tag start entries)

-- what is said of a request that reads or searches, where its answer reports what was read or found
abbrev pub IfShows : SeatRequest → Answer → Type 0 → Type 0
IfShows (Put items) answer P = Unit {0}
IfShows (Get keys) answer P = IfRead answer (λ told. P)
IfShows (Find tag) answer P = IfListed answer (λ told. P)

-- ---- while the operation runs

-- it is the stamp of what was asked, if that writes
abbrev pub IsStampOf : Stamp → Asked → Type 0
IsStampOf told (Writes own items) = told ≡ own
IsStampOf told (Gets keys) = Unit {0}
IsStampOf told (Finds tag) = Unit {0}

-- what runs, if something does, took replies that were entered after these entries
pub record IsReadBySeat (sight : OperationSight) (setup : Setup) (asked : Asked) (start entries : List Entry)
    (running : Option Running) : Type 0 where
  pub more : List Entry
  pub is : entries ≡ start ++ more
  pub taken : List Message
  pub among : AreAmong sight asked taken more
  pub shown : IsShown setup asked taken running

-- a move of the session is the plain store's at the last of replies that were entered after these entries, or it ignored the reply
abbrev pub IsMovedBy : OperationSight → Setup → Asked → List Entry → List Entry → Move → Type 0
IsMovedBy sight setup asked start entries move =
    (move ≡ Ignored) ⊎ IsFromReplies sight asked start entries (λ taken last. IsMoveAt setup asked taken last move)

-- what is said of an answer, if there is one
abbrev pub IfTold : Option Answer → (Answer → Type 0) → Type 0
IfTold None P = Unit {0}
IfTold (Some answer) P = P answer

-- and what was answered by then, if anything was, is so read or found, and reports the plain store's move
pub record Reads (sight : OperationSight) (setup : Setup) (asked : Asked) (start entries : List Entry)
    (running : Option Running) (told : Option Answer) : Type 0 where
  pub reading : IsReadBySeat sight setup asked start entries running
  pub answered : IfTold told (λ answer. IfSays asked answer (IsToldOf sight setup asked start entries))
  pub moved : IfTold told (IsMoveOf sight setup asked start entries)
