-- What a transaction was shown by the replies that it took, whatever they are, and what it then answers.
use Rattle.std.specs.Prelude.{◌≡◌, ◌⊎◌, List, [], ◌∷◌, ◌++◌, true, Option, Some, None}
use Rattle.stamps.specs.declared.record.Item.{Item}
use Rattle.plain_store.specs.declared.calls.Call.{Call}
use Rattle.plain_store.specs.declared.calls.Call.TheVariants.{Prepare, Commit, Get}
use Rattle.plain_store.specs.declared.message.Message.{Message}
use Rattle.plain_store.specs.declared.reading.Reading.{Reading}
use Rattle.plain_store.specs.declared.refusal.Refusal.TheVariants.{TooMany, Torn}
use Rattle.plain_store.specs.History.{Intent, Writes, Gets, Finds}
use Rattle.plain_store.specs.Finding.{all_keys_found, carrying}
use Rattle.plain_store.specs.Moves.{Finishes, Reads, Lists, Move as PlainMove}
use Rattle.plain_store.specs.Rounds.{readings}
use Rattle.plain_store.specs.Words.{Key, Stamp, Tag, Setup}
use Rattle.plain_store.specs.Writing.{all_prepared, all_committed}
use Rattle.put_all.specs.declared.writer.Writer.{Writer}
use Rattle.put_all.specs.declared.writer.WriteMove.{WriteMove}
use Rattle.put_all.specs.declared.writer.WriteMove.TheVariants.{Decide as DecideWrite, Done as DoneWrite}
use Rattle.put_all.specs.declared.writer.WriteMove.TheVariants.{Ignored as IgnoredWrite}
use Rattle.put_all.specs.Writer.{StandsFor as StandsForWrite, told as told_written}
use Rattle.put_all.specs.Writing.{write_answer}
use Rattle.get_all.specs.declared.tag_search.FindMove.{FindMove}
use Rattle.get_all.specs.declared.tag_search.FindMove.TheVariants as found
use Rattle.get_all.specs.declared.reader.Reader.{Reader}
use Rattle.get_all.specs.declared.reader.ReadMove.{ReadMove}
use Rattle.get_all.specs.declared.reader.ReadMove.TheVariants.{Ignored as IgnoredRead}
use Rattle.get_all.specs.TagSearch.{StandsFor as StandsForFind}
use Rattle.get_all.specs.Finding.{find_answer}
use Rattle.get_all.specs.Reader.{StandsFor, IfRead, told as told_read}
use Rattle.get_all.specs.Reading.{read_answer, IsUnfractured, ReadsWhole}
use Rattle.tenant_sessions.specs.Holding.{Machine, Write, Find}
use Rattle.tenant_sessions.specs.Holding.{Read as ReadMachine}
use Rattle.tenant_sessions.specs.Moves.{Move, Wait, Decided, Done, Ask, Begins, Read, Listed, Restart, Ended, Ignored}
use Rattle.tenant_sessions.specs.Moves.{told as told_of}
use Rattle.tenant_sessions.specs.declared.running.Running.{Running}

-- a search by this tag that took these replies, in order, and no others
abbrev pub HasFound : Setup → Tag → List Message → Machine → Type 0
HasFound setup tag taken (Write stamp writer) = ⊥
HasFound setup tag taken (ReadMachine reader) = ⊥
HasFound setup tag taken (Find search reader) = StandsForFind setup tag search reader taken

-- a read of these keys that did
abbrev pub HasRead : List Key → List Message → Machine → Type 0
HasRead keys taken (Write stamp writer) = ⊥
HasRead keys taken (ReadMachine reader) = StandsFor keys reader taken
HasRead keys taken (Find search reader) = ⊥

-- a write of these items under this stamp that did
abbrev pub HasWritten : Setup → Stamp → List Item → List Message → Machine → Type 0
HasWritten setup stamp items taken (Write own writer) = (own ≡ stamp) × StandsForWrite setup stamp items writer taken
HasWritten setup stamp items taken (ReadMachine reader) = ⊥
HasWritten setup stamp items taken (Find search reader) = ⊥

-- so of what was asked
abbrev pub HasTaken : Setup → Intent → List Message → Machine → Type 0
HasTaken setup (Writes stamp items) taken machine = HasWritten setup stamp items taken machine
HasTaken setup (Gets keys) taken machine = HasRead keys taken machine
HasTaken setup (Finds tag) taken machine = HasFound setup tag taken machine

-- what runs, if something does, is such a one
abbrev pub IsShown : Setup → Intent → List Message → Option Running → Type 0
IsShown setup request taken None = Unit {0}
IsShown setup request taken (Some running) = HasTaken setup request taken running.machine

-- A write is reported as done by the last of these replies, after those that it took before: by those each item's
-- PREPARE was accepted, and by all of them the COMMIT was done at each home.
pub record IsWritersAnswer (setup : Setup) (stamp : Stamp) (items : List Item) (taken : List Message) (last : Message)
    : Type 0 where
  pub answers : write_answer setup stamp items taken last ≡ Some (Finishes stamp)
  pub prepared : all_prepared stamp items taken ≡ true
  pub committed : all_committed setup stamp items (taken ++ last ∷ []) ≡ true

-- What is reported is the reader's answer to the last of these replies, after those that it took before. So both rounds are
-- complete, it is what the replies showed, and it is unfractured by the write sets that they showed.
pub record IsReadersAnswer (keys : List Key) (taken : List Message) (last : Message) (told : List Reading)
    : Type 0 where
  pub answers : (setup : Setup) → read_answer setup keys Reads taken last ≡ Some (Reads told)
  pub whole : ReadsWhole keys (taken ++ last ∷ []) told

-- What a search reports is what its replies showed of the keys that the partitions told, those items that carry the tag;
-- and that is unfractured.
pub record ListsWhole (tag : Tag) (replies : List Message) (told : List Reading) : Type 0 where
  pub shown : told ≡ carrying tag (readings (all_keys_found replies) replies)
  pub unfractured : IsUnfractured (all_keys_found replies) replies

-- What is listed is the finder's answer to the last of these replies, after those that it took before. So both rounds of
-- what it read are complete, and it is unfractured by the write sets that the replies showed.
pub record IsFindersAnswer (setup : Setup) (tag : Tag) (taken : List Message) (last : Message) (told : List Reading)
    : Type 0 where
  pub answers : find_answer setup tag taken last ≡ Some (Lists told)
  pub whole : ListsWhole tag (taken ++ last ∷ []) told

-- the answer of the one that was so asked; a write reports no reading
abbrev pub IsAnswerTo : Setup → Intent → List Message → Message → List Reading → Type 0
IsAnswerTo setup (Writes stamp items) taken last told = IsWritersAnswer setup stamp items taken last
IsAnswerTo setup (Gets keys) taken last told = IsReadersAnswer keys taken last told
IsAnswerTo setup (Finds tag) taken last told = IsFindersAnswer setup tag taken last told

-- the plain store's move at the last of these replies, after those that were taken before; None where the last is ignored
abbrev pub plain_move : Setup → Intent → List Message → Message → Option PlainMove
plain_move setup (Writes stamp items) taken last = write_answer setup stamp items taken last
plain_move setup (Gets keys) taken last = read_answer setup keys Reads taken last
plain_move setup (Finds tag) taken last = find_answer setup tag taken last

-- it is this one, which the move of a transaction reports
abbrev pub IsMoveAt : Setup → Intent → List Message → Message → Move → Type 0
IsMoveAt setup request taken last move =
    (plain : PlainMove) × (plain_move setup request taken last ≡ Some plain) × (told_of plain ≡ move)

-- A call is taken as it is, but for its stamp: a PREPARE and a COMMIT as those of the write, and a GET of round two as that
-- of the version that is needed.
abbrev pub IsCallFor : Call → Call → Type 0
IsCallFor (Prepare version) call = (own : Stamp) × (call ≡ Prepare (record version { stamp = own }))
IsCallFor (Commit asked) call = (own : Stamp) × (call ≡ Commit own)
IsCallFor (Get key (Some asked)) call = (needed : Stamp) × (call ≡ Get key (Some needed))
IsCallFor other call = call ≡ other

-- so of a message, with its reply
pub record IsTakenFor (message meant : Message) : Type 0 where
  pub partition : meant.partition ≡ message.partition
  pub call : IsCallFor message.call meant.call
  pub reply : meant.reply ≡ message.reply

-- what is said where the writer's answer reports that the write is done
abbrev pub IfWritten : WriteMove → Type 0 → Type 0
IfWritten (DoneWrite stamp) P = P
IfWritten answer P = Unit {0}

-- and where it is that the write is decided
abbrev pub IfDecides : WriteMove → Type 0 → Type 0
IfDecides DecideWrite P = P
IfDecides answer P = Unit {0}

-- The writer ignores a message, or takes its reply as that to one of its calls, whatever the message is.
abbrev pub OffersWrite : Setup → Stamp → List Item → List Message → Message → WriteMove → Writer → Type 0
OffersWrite setup stamp items taken message answer writer =
    ((answer ≡ IgnoredWrite) × StandsForWrite setup stamp items writer taken)
    ⊎ ((meant : Message) × IsTakenFor message meant × StandsForWrite setup stamp items writer (taken ++ meant ∷ [])
    × IfWritten answer (IsWritersAnswer setup stamp items taken meant)
    × IfDecides answer (all_prepared stamp items (taken ++ meant ∷ []) ≡ true)
    × ((plain : PlainMove) × (write_answer setup stamp items taken meant ≡ Some plain)
    × (told_written setup stamp items answer ≡ Some plain)))

-- The reader ignores a message, or takes its reply as that to one of its calls, whatever the message is.
abbrev pub Offers : List Key → List Message → Message → ReadMove → Reader → Type 0
Offers keys taken message answer reader =
    ((answer ≡ IgnoredRead) × StandsFor keys reader taken)
    ⊎ ((meant : Message) × IsTakenFor message meant × StandsFor keys reader (taken ++ meant ∷ [])
    × IfRead answer (IsReadersAnswer keys taken meant)
    × ((setup : Setup) → (plain : PlainMove) × (read_answer setup keys Reads taken meant ≡ Some plain)
    × (told_read setup Reads answer ≡ Some plain)))

-- the move by which the finder's answer is reported
abbrev pub found_move : FindMove → Move
found_move found.Wait = Wait
found_move (found.Begin keys) = Begins
found_move (found.Ask late) = Ask
found_move (found.List items) = Listed items
found_move (found.Restart key floor) = Restart key floor
found_move found.TooMany = Ended TooMany []
found_move found.Torn = Ended Torn []
found_move found.Ignored = Ignored

-- what is said of a move that reports what was read; a read lists nothing
abbrev pub IfReads : Move → (List Reading → Type 0) → Type 0
IfReads Wait P = Unit {0}
IfReads (Decided stamp) P = Unit {0}
IfReads (Done stamp) P = Unit {0}
IfReads Ask P = Unit {0}
IfReads Begins P = Unit {0}
IfReads (Read told) P = P told
IfReads (Listed told) P = ⊥
IfReads (Restart key floor) P = Unit {0}
IfReads (Ended refusal calls) P = Unit {0}
IfReads Ignored P = Unit {0}

-- and of one that reports what was found; a search reads nothing
abbrev pub IfLists : Move → (List Reading → Type 0) → Type 0
IfLists Wait P = Unit {0}
IfLists (Decided stamp) P = Unit {0}
IfLists (Done stamp) P = Unit {0}
IfLists Ask P = Unit {0}
IfLists Begins P = Unit {0}
IfLists (Read told) P = ⊥
IfLists (Listed told) P = P told
IfLists (Restart key floor) P = Unit {0}
IfLists (Ended refusal calls) P = Unit {0}
IfLists Ignored P = Unit {0}

-- a write reports no stamp but its own, and where it is reported as done more is said; and it reads and finds nothing
abbrev pub TellsStamp : Stamp → Move → Type 0 → Type 0
TellsStamp own Wait P = Unit {0}
TellsStamp own (Decided stamp) P = stamp ≡ own
TellsStamp own (Done stamp) P = (stamp ≡ own) × P
TellsStamp own Ask P = ⊥
TellsStamp own Begins P = ⊥
TellsStamp own (Read told) P = ⊥
TellsStamp own (Listed told) P = ⊥
TellsStamp own (Restart key floor) P = ⊥
TellsStamp own (Ended refusal calls) P = Unit {0}
TellsStamp own Ignored P = Unit {0}

-- by what was asked
abbrev pub IfTells : Intent → Move → (List Reading → Type 0) → Type 0
IfTells (Writes stamp items) answer P = TellsStamp stamp answer (P [])
IfTells (Gets keys) answer P = IfReads answer P
IfTells (Finds tag) answer P = IfLists answer P

-- what is said of a move by which a write is decided
abbrev pub IfPrepared : Move → Type 0 → Type 0
IfPrepared Wait P = Unit {0}
IfPrepared (Decided stamp) P = P
IfPrepared (Done stamp) P = Unit {0}
IfPrepared Ask P = Unit {0}
IfPrepared Begins P = Unit {0}
IfPrepared (Read told) P = Unit {0}
IfPrepared (Listed told) P = Unit {0}
IfPrepared (Restart key floor) P = Unit {0}
IfPrepared (Ended refusal calls) P = Unit {0}
IfPrepared Ignored P = Unit {0}

-- a write is decided once each of its items is prepared, by the replies that it took; a read or a search decides nothing
abbrev pub IfDecided : Intent → Move → List Message → Type 0
IfDecided (Writes stamp items) answer replies = IfPrepared answer (all_prepared stamp items replies ≡ true)
IfDecided (Gets keys) answer replies = IfPrepared answer ⊥
IfDecided (Finds tag) answer replies = IfPrepared answer ⊥

-- The message's reply was taken, as one to the call in whose place it came, and the move is the plain store's. Stands: which replies
-- are then taken
pub record IsTakenAs (setup : Setup) (request : Intent) (taken : List Message) (message : Message) (answer : Move)
    (Stands : List Message → Type 0) : Type 0 where
  pub meant : Message
  pub same : IsTakenFor message meant
  pub stands : Stands (taken ++ meant ∷ [])
  pub told : IfTells request answer (IsAnswerTo setup request taken meant)
  pub decided : IfDecided request answer (taken ++ meant ∷ [])
  pub moved : IsMoveAt setup request taken meant answer

-- whatever the message is, it is ignored, or its reply is taken
abbrev pub Shows : Setup → Intent → List Message → Message → Move → (List Message → Type 0) → Type 0
Shows setup request taken message answer Stands =
    ((answer ≡ Ignored) × Stands taken) ⊎ IsTakenAs setup request taken message answer Stands
