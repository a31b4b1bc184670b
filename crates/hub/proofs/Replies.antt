-- What a seat answers: for the functions of an operation.
use Rattle.std.proofs.Common.{◌≡◌, ℕ, List, [], ◌∷◌, ◌++◌, refl, sym, ap, ◌∙◌, subst, Option, Some, None, inl, inr, Bool, true, false, cond, is_some, Result, Ok, Err}
use Rattle.std.specs.Prelude.{OnOk, IfErr, IfOk, IsSome, IsNone, nat_le}
use Rattle.std.proofs.Math.Logic.{∥∥₁_map}
use Rattle.std.proofs.lemmas.List.{append_assoc, append-nil}
use Rattle.plain_store.specs.declared.answer.Answer.{Answer}
use Rattle.plain_store.specs.declared.answer.Answer.TheVariants as says
use Rattle.plain_store.specs.declared.calls.Call.{Call}
use Rattle.plain_store.specs.declared.calls.Reply.{Reply}
use Rattle.plain_store.specs.declared.message.Message.{Message}
use Rattle.plain_store.specs.declared.reading.Reading.{Reading}
use Rattle.plain_store.specs.Words.{◌∈◌, Item, Stamp, Setup}
use Rattle.plain_store.specs.Writing.{keys_written}
use Rattle.entry_list.specs.declared.kinds.Entry.{Entry}
use Rattle.entry_list.specs.declared.kinds.Entry.TheVariants.{Began as began, Took, Answered}
use Rattle.tenant_sessions.specs.declared.running.Running.{Running}
use Rattle.tenant_sessions.specs.declared.moves.Move.{Move}
use Rattle.tenant_sessions.specs.declared.moves.Move.TheVariants.{Wait, Decided, Done, Ask, Begins as BeginsCalls, Read, Listed, Restart, Ended, Ignored}
use Rattle.plain_store.specs.Moves.{Waits, Decides, Finishes, Asks, Begins, Lists, Restarts, Fails, Move as PlainMove, Reads as ReadsAll}
use Rattle.tenant_sessions.specs.Moves.{answer_of, is_last, told as told_of}
use Rattle.tenant_sessions.specs.Showing.{IfReads, IfLists, IfTells, TellsStamp, IsAnswerTo, IsShown, IsTakenFor, Shows}
use Rattle.tenant_sessions.specs.Running.{MayBegin}
use Rattle.plain_store.specs.declared.answer.Rows.{Rows}
use Rattle.hub.specs.Replies.{IsUnder, IsOf, IsStampOf, IsReplyIn, AreAmong, IsFromReplies, IsWriteOf, IsReadOf, IsListOf, IsToldOf, IsToldFor, IsMoveOf, IsMoveFor, IsMovedBy, answer_to, IfRuns, IfShows, IfDone, IfRead, IfListed, IfSays, IsReadBySeat, IfTold, Reads}
use Rattle.hub.specs.Seats.{at_seat, told_by}
use Rattle.shard.specs.Jobs.{refusal_of}
use Rattle.hub.specs.Requests.{intent_of, test_of}
use Rattle.shard.specs.declared.jobs.Fault.{Fault}
use Rattle.hub.specs.declared.seat_request.SeatRequest.{SeatRequest}
use Rattle.hub.specs.declared.seat_request.SeatRequest.TheVariants as ask
use Rattle.history.specs.declared.entry.Mark.{Mark}
use mathlib.Core.List.{IsPrefix}
use Rattle.history.specs.declared.entry.HistoryEntry.{HistoryEntry}
use Rattle.history.specs.declared.entry.HistoryEntry.TheVariants.{Joined, ReadBegan}
use Rattle.history.proofs.Lists.{prefix_has, prefix_join}
use Rattle.shard.specs.declared.seat_name.SeatName.{SeatName}
use Rattle.traced_client.specs.Clients.{ClientTrace, HasJoined, HasReadEntry}
use Rattle.hub.specs.Evidence.{HasBegunIn, HasOwnReadEntry, IsMarkedSince, IsOfClient}
use Rattle.hub.specs.Sights.{OperationSight}
use Rattle.hub.proofs.Given.{IsLaterOperation, operation-later}
use Rattle.hub.proofs.Entries.{told-none, told-some}
use Rattle.hub.proofs.Refusals.{passed}
use Rattle.plain_store.specs.declared.refusal.Refusal.{Refusal}
use Rattle.plain_store.specs.declared.refusal.Refusal.TheVariants.{Busy, BadItems, StampsUsed, Stopped}
use Rattle.plain_store.specs.History.{Intent as Asked, Writes, Gets, Finds}
use Rattle.plain_store.specs.Run.{are_bad, counter_limit}
use Rattle.tenant_sessions.specs.declared.session.ClientSession.{ClientSession}

-- ---- replies among entries

among_more : (name : OperationSight) (asked : Asked) (messages : List Message) (entries : List Entry) (e : Entry) → AreAmong name asked messages entries → AreAmong name asked messages (entries ++ e ∷ [])
among_more name asked [] entries e is = tt
among_more name asked (m ∷ ms) [] e is = absurd is
among_more name asked (m ∷ ms) (x ∷ xs) e (inl is) = inl (is.0, among_more name asked ms xs e is.1)
among_more name asked (m ∷ ms) (x ∷ xs) e (inr is) = inr (among_more name asked (m ∷ ms) xs e is)

pub among_push : (name : OperationSight) (asked : Asked) (messages : List Message) (entries : List Entry) (message : Message) (e : Entry) → IsReplyIn name asked message e → AreAmong name asked messages entries → AreAmong name asked (messages ++ message ∷ []) (entries ++ e ∷ [])
among_push name asked [] [] message e has is = inl (has, tt)
among_push name asked [] (x ∷ xs) message e has is = inr (among_push name asked [] xs message e has tt)
among_push name asked (m ∷ ms) [] message e has is = absurd is
among_push name asked (m ∷ ms) (x ∷ xs) message e has (inl is) = inl (is.0, among_push name asked ms xs message e has is.1)
among_push name asked (m ∷ ms) (x ∷ xs) message e has (inr is) = inr (among_push name asked (m ∷ ms) xs message e has is)

-- ---- one entry more

more_is : (start entries more : List Entry) (e : Entry) → entries ≡ start ++ more → entries ++ e ∷ [] ≡ start ++ (more ++ e ∷ [])
more_is start entries more e is = ap (λ (es : List Entry). es ++ e ∷ []) is ∙ append_assoc start more (e ∷ [])

read_more : (name : OperationSight) (asked : Asked) (start entries : List Entry) (e : Entry) (Answers : List Message → Message → Type 0) → IsFromReplies name asked start entries Answers → IsFromReplies name asked start (entries ++ e ∷ []) Answers
read_more name asked start entries e Answers read = record {
  more = read.more ++ e ∷ [];
  is = more_is start entries read.more e read.is;
  taken = read.taken;
  last = read.last;
  among = among_more name asked (read.taken ++ read.last ∷ []) read.more e read.among;
  answers = read.answers;
}

-- what answers them may be told in other words
pub from-so : (name : OperationSight) (asked : Asked) (start entries : List Entry) (P Q : List Message → Message → Type 0) → ((taken : List Message) (last : Message) → P taken last → Q taken last)
    → IsFromReplies name asked start entries P → IsFromReplies name asked start entries Q
from-so name asked start entries P Q so from = record { more = from.more; is = from.is; taken = from.taken; last = from.last; among = from.among; answers = so from.taken from.last from.answers }

pub if_read : (answer : Answer) (P Q : List Reading → Type 0) → ((told : List Reading) → P told → Q told) → IfRead answer P → IfRead answer Q
if_read (says.Refused refusal) P Q so is = tt
if_read (says.Ready counter) P Q so is = tt
if_read (says.PutBegun stamp rows) P Q so is = tt
if_read (says.GetBegun rows) P Q so is = tt
if_read (says.FindBegun rows) P Q so is = tt
if_read (says.Replied row reply) P Q so is = tt
if_read says.Ignored P Q so is = tt
if_read says.Wait P Q so is = tt
if_read (says.Decided stamp rows) P Q so is = tt
if_read (says.Done stamp) P Q so is = tt
if_read (says.Ask rows) P Q so is = tt
if_read (says.BeginsRead rows) P Q so is = tt
if_read (says.Read told) P Q so is = so told is
if_read (says.Listed told) P Q so is = is
if_read (says.Restart key floor) P Q so is = tt
if_read (says.Ended refusal rows) P Q so is = tt
if_read says.Lost P Q so is = tt
if_read says.Stopped P Q so is = tt
if_read (says.Sent rows) P Q so is = tt
if_read (says.Freed count) P Q so is = tt
if_read (says.Keeps keep) P Q so is = tt

pub if_listed : (answer : Answer) (P Q : List Reading → Type 0) → ((told : List Reading) → P told → Q told) → IfListed answer P → IfListed answer Q
if_listed (says.Refused refusal) P Q so is = tt
if_listed (says.Ready counter) P Q so is = tt
if_listed (says.PutBegun stamp rows) P Q so is = tt
if_listed (says.GetBegun rows) P Q so is = tt
if_listed (says.FindBegun rows) P Q so is = tt
if_listed (says.Replied row reply) P Q so is = tt
if_listed says.Ignored P Q so is = tt
if_listed says.Wait P Q so is = tt
if_listed (says.Decided stamp rows) P Q so is = tt
if_listed (says.Done stamp) P Q so is = tt
if_listed (says.Ask rows) P Q so is = tt
if_listed (says.BeginsRead rows) P Q so is = tt
if_listed (says.Read told) P Q so is = is
if_listed (says.Listed told) P Q so is = so told is
if_listed (says.Restart key floor) P Q so is = tt
if_listed (says.Ended refusal rows) P Q so is = tt
if_listed says.Lost P Q so is = tt
if_listed says.Stopped P Q so is = tt
if_listed (says.Sent rows) P Q so is = tt
if_listed (says.Freed count) P Q so is = tt
if_listed (says.Keeps keep) P Q so is = tt

-- what a write that is done reports is said of the answer that it is
pub if_done_as : (answer : Answer) (P Q : Stamp → Type 0) → ((told : Stamp) → answer ≡ says.Done told → P told → Q told) → IfDone answer P → IfDone answer Q
if_done_as (says.Refused refusal) P Q so is = tt
if_done_as (says.Ready counter) P Q so is = tt
if_done_as (says.PutBegun stamp rows) P Q so is = tt
if_done_as (says.GetBegun rows) P Q so is = tt
if_done_as (says.FindBegun rows) P Q so is = tt
if_done_as (says.Replied row reply) P Q so is = tt
if_done_as says.Ignored P Q so is = tt
if_done_as says.Wait P Q so is = tt
if_done_as (says.Decided stamp rows) P Q so is = tt
if_done_as (says.Done stamp) P Q so is = so stamp refl is
if_done_as (says.Ask rows) P Q so is = tt
if_done_as (says.BeginsRead rows) P Q so is = tt
if_done_as (says.Read told) P Q so is = is
if_done_as (says.Listed told) P Q so is = is
if_done_as (says.Restart key floor) P Q so is = tt
if_done_as (says.Ended refusal rows) P Q so is = tt
if_done_as says.Lost P Q so is = tt
if_done_as says.Stopped P Q so is = tt
if_done_as (says.Sent rows) P Q so is = tt
if_done_as (says.Freed count) P Q so is = tt
if_done_as (says.Keeps keep) P Q so is = tt

pub if_done : (answer : Answer) (P Q : Stamp → Type 0) → ((told : Stamp) → P told → Q told) → IfDone answer P → IfDone answer Q
if_done answer P Q so is = if_done_as answer P Q (λ told same. so told) is

if_says : (asked : Asked) (answer : Answer) (P Q : List Reading → Type 0) → ((told : List Reading) → P told → Q told) → IfSays asked answer P → IfSays asked answer Q
if_says (Writes stamp items) answer P Q so is = if_done answer _ _ (λ told says. (says.0, so [] says.1)) is
if_says (Gets keys) answer P Q so is = if_read answer P Q so is
if_says (Finds tag) answer P Q so is = if_listed answer P Q so is

told_more : (name : OperationSight) (setup : Setup) (asked : Asked) (start entries : List Entry) (e : Entry) (told : Option Answer)
    → IfTold told (λ answer. IfSays asked answer (IsToldOf name setup asked start entries)) → IfTold told (λ answer. IfSays asked answer (IsToldOf name setup asked start (entries ++ e ∷ [])))
told_more name setup asked start entries e None is = tt
told_more name setup asked start entries e (Some answer) is = if_says asked answer _ _ (λ told. read_more name asked start entries e (λ taken last. IsAnswerTo setup asked taken last told)) is

-- what is said of an answer that is no refusal
pub if_runs : (answer : Answer) (P Q : Type 0) → (P → Q) → IfRuns answer P → IfRuns answer Q
if_runs (says.Refused refusal) P Q so is = tt
if_runs _ P Q so is = so is

runs_so : (answer : Answer) (P : Type 0) → P → IfRuns answer P
runs_so (says.Refused refusal) P is = tt
runs_so _ P is = is

move_more : (name : OperationSight) (setup : Setup) (asked : Asked) (start entries : List Entry) (e : Entry) (told : Option Answer) → IfTold told (IsMoveOf name setup asked start entries) → IfTold told (IsMoveOf name setup asked start (entries ++ e ∷ []))
move_more name setup asked start entries e None is = tt
move_more name setup asked start entries e (Some answer) is = read_more name asked start entries e _ is

-- ---- a reply that is taken

if_reads : (move : Move) (P Q : List Reading → Type 0) → ((told : List Reading) → P told → Q told) → IfReads move P → IfReads move Q
if_reads Wait P Q so is = tt
if_reads (Decided stamp) P Q so is = tt
if_reads (Done stamp) P Q so is = tt
if_reads Ask P Q so is = tt
if_reads BeginsCalls P Q so is = tt
if_reads (Read told) P Q so is = so told is
if_reads (Listed told) P Q so is = is
if_reads (Restart key floor) P Q so is = tt
if_reads (Ended refusal calls) P Q so is = tt
if_reads Ignored P Q so is = tt

if_lists : (move : Move) (P Q : List Reading → Type 0) → ((told : List Reading) → P told → Q told) → IfLists move P → IfLists move Q
if_lists Wait P Q so is = tt
if_lists (Decided stamp) P Q so is = tt
if_lists (Done stamp) P Q so is = tt
if_lists Ask P Q so is = tt
if_lists BeginsCalls P Q so is = tt
if_lists (Read told) P Q so is = is
if_lists (Listed told) P Q so is = so told is
if_lists (Restart key floor) P Q so is = tt
if_lists (Ended refusal calls) P Q so is = tt
if_lists Ignored P Q so is = tt

tells_stamp : (own : Stamp) (move : Move) (P Q : Type 0) → (P → Q) → TellsStamp own move P → TellsStamp own move Q
tells_stamp own Wait P Q so is = tt
tells_stamp own (Decided stamp) P Q so is = is
tells_stamp own (Done stamp) P Q so is = (is.0, so is.1)
tells_stamp own Ask P Q so is = is
tells_stamp own BeginsCalls P Q so is = is
tells_stamp own (Read told) P Q so is = is
tells_stamp own (Listed told) P Q so is = is
tells_stamp own (Restart key floor) P Q so is = is
tells_stamp own (Ended refusal calls) P Q so is = tt
tells_stamp own Ignored P Q so is = tt

if_tells : (asked : Asked) (move : Move) (P Q : List Reading → Type 0) → ((told : List Reading) → P told → Q told) → IfTells asked move P → IfTells asked move Q
if_tells (Writes stamp items) move P Q so is = tells_stamp stamp move (P []) (Q []) (so []) is
if_tells (Gets keys) move P Q so is = if_reads move P Q so is
if_tells (Finds tag) move P Q so is = if_lists move P Q so is

-- nothing was reported of what is ignored
ignored_tells : (asked : Asked) (P : List Reading → Type 0) → IfTells asked Ignored P
ignored_tells (Writes stamp items) P = tt
ignored_tells (Gets keys) P = tt
ignored_tells (Finds tag) P = tt

pub reading-took : (name : OperationSight) (setup : Setup) (asked : Asked) (start entries : List Entry) (running after : Option Running) (message : Message) (move : Move) (e : Entry)
    → ((m : Message) → IsTakenFor message m → IsReplyIn name asked m e) → IsReadBySeat name setup asked start entries running
    → ((taken : List Message) → IsShown setup asked taken running → Shows setup asked taken message move (λ replies. IsShown setup asked replies after))
    → IsReadBySeat name setup asked start (entries ++ e ∷ []) after × IfTells asked move (IsToldOf name setup asked start (entries ++ e ∷ [])) × IsMovedBy name setup asked start (entries ++ e ∷ []) move
reading-took name setup asked start entries running after message move e enters reading shows = go (shows reading.taken reading.shown)
  where
    go : Shows setup asked reading.taken message move (λ replies. IsShown setup asked replies after)
        → IsReadBySeat name setup asked start (entries ++ e ∷ []) after × IfTells asked move (IsToldOf name setup asked start (entries ++ e ∷ [])) × IsMovedBy name setup asked start (entries ++ e ∷ []) move
    go (inl passed) =
        let P : Move → Type 0 = λ m. IfTells asked m (IsToldOf name setup asked start (entries ++ e ∷ [])) in (
          record {
            more = reading.more ++ e ∷ [];
            is = more_is start entries reading.more e reading.is;
            taken = reading.taken;
            among = among_more name asked reading.taken reading.more e reading.among;
            shown = passed.1;
          },
          subst P (sym passed.0) (ignored_tells asked (IsToldOf name setup asked start (entries ++ e ∷ []))),
          inl passed.0,
        )
    go (inr took) =
        let more = reading.more ++ e ∷ [] in
        let is = more_is start entries reading.more e reading.is in
        let among = among_push name asked reading.taken reading.more took.meant e (enters took.meant took.same) reading.among in (
          record { more = more; is = is; taken = reading.taken ++ took.meant ∷ []; among = among; shown = took.stands },
          if_tells asked move (IsAnswerTo setup asked reading.taken took.meant) (IsToldOf name setup asked start (entries ++ e ∷ []))
              (λ told answers. record { more = more; is = is; taken = reading.taken; last = took.meant; among = among; answers = answers }) took.told,
          inr (record { more = more; is = is; taken = reading.taken; last = took.meant; among = among; answers = took.moved }),
        )

-- ---- an answer that is entered

pub reading_more : (name : OperationSight) (setup : Setup) (asked : Asked) (start entries : List Entry) (running : Option Running) (e : Entry) → IsReadBySeat name setup asked start entries running → IsReadBySeat name setup asked start (entries ++ e ∷ []) running
reading_more name setup asked start entries running e reading = record {
  more = reading.more ++ e ∷ [];
  is = more_is start entries reading.more e reading.is;
  taken = reading.taken;
  among = among_more name asked reading.taken reading.more e reading.among;
  shown = reading.shown;
}

read_at_end : (move : Move) (rows : Rows) (P : List Reading → Type 0) → IfReads move P → IfRead (at_seat (answer_of move rows)) P
read_at_end Wait rows P is = tt
read_at_end (Decided stamp) rows P is = tt
read_at_end (Done stamp) rows P is = tt
read_at_end Ask rows P is = tt
read_at_end BeginsCalls rows P is = tt
read_at_end (Read told) rows P is = is
read_at_end (Listed told) rows P is = is
read_at_end (Restart key floor) rows P is = tt
read_at_end (Ended refusal calls) rows P is = tt
read_at_end Ignored rows P is = tt

list_at_end : (move : Move) (rows : Rows) (P : List Reading → Type 0) → IfLists move P → IfListed (at_seat (answer_of move rows)) P
list_at_end Wait rows P is = tt
list_at_end (Decided stamp) rows P is = tt
list_at_end (Done stamp) rows P is = tt
list_at_end Ask rows P is = tt
list_at_end BeginsCalls rows P is = tt
list_at_end (Read told) rows P is = is
list_at_end (Listed told) rows P is = is
list_at_end (Restart key floor) rows P is = tt
list_at_end (Ended refusal calls) rows P is = tt
list_at_end Ignored rows P is = tt

done_at_end : (move : Move) (rows : Rows) (own : Stamp) (P : Type 0) → TellsStamp own move P → IfDone (at_seat (answer_of move rows)) (λ stamp. (stamp ≡ own) × P)
done_at_end Wait rows own P is = tt
done_at_end (Decided stamp) rows own P is = tt
done_at_end (Done stamp) rows own P is = is
done_at_end Ask rows own P is = tt
done_at_end BeginsCalls rows own P is = tt
done_at_end (Read told) rows own P is = is
done_at_end (Listed told) rows own P is = is
done_at_end (Restart key floor) rows own P is = tt
done_at_end (Ended refusal calls) rows own P is = tt
done_at_end Ignored rows own P is = tt

told_at_end : (asked : Asked) (move : Move) (rows : Rows) (P : List Reading → Type 0) → IfTells asked move P → IfSays asked (at_seat (answer_of move rows)) P
told_at_end (Writes stamp items) move rows P is = done_at_end move rows stamp (P []) is
told_at_end (Gets keys) move rows P is = read_at_end move rows P is
told_at_end (Finds tag) move rows P is = list_at_end move rows P is

-- the answer that a seat gives at the last move reports the plain store's
answers_move : (plain : PlainMove) (rows : Rows) → is_last (told_of plain) ≡ true → answer_to plain ≡ Some (at_seat (answer_of (told_of plain) rows))
answers_move Waits rows last = cc
answers_move (Decides stamp calls) rows last = cc
answers_move (Finishes stamp) rows last = refl
answers_move (Asks calls) rows last = cc
answers_move (Begins calls) rows last = cc
answers_move (ReadsAll readings) rows last = refl
answers_move (Lists readings) rows last = refl
answers_move (Restarts key floor) rows last = refl
answers_move (Fails refusal calls) rows last = refl

moved_at_end : (name : OperationSight) (setup : Setup) (asked : Asked) (start entries : List Entry) (move : Move) (rows : Rows) (e : Entry) → is_last move ≡ true → IsMovedBy name setup asked start entries move
    → IsMoveOf name setup asked start (entries ++ e ∷ []) (at_seat (answer_of move rows))
moved_at_end name setup asked start entries move rows e last (inl ignored) = let no : true ≡ false = sym last ∙ ap is_last ignored in absurd cc
moved_at_end name setup asked start entries move rows e last (inr from) =
    let P : PlainMove → Move → Type 0 = λ plain m. answer_to plain ≡ Some (at_seat (answer_of m rows)) in
    read_more name asked start entries e _ (from-so name asked start entries _ _
    (λ taken last_one its. (its.0, its.1, subst (P its.0) its.2 (answers_move its.0 rows (ap is_last its.2 ∙ last)))) from)

-- the answer that a move ends the operation with
pub reads-answered : (name : OperationSight) (setup : Setup) (asked : Asked) (start entries : List Entry) (running : Option Running) (move : Move) (rows : Rows) (answer : Answer) (e : Entry)
    → answer ≡ at_seat (answer_of move rows) → is_last move ≡ true → IsReadBySeat name setup asked start entries running → IfTells asked move (IsToldOf name setup asked start entries) → IsMovedBy name setup asked start entries move
    → Reads name setup asked start (entries ++ e ∷ []) running (Some answer)
reads-answered name setup asked start entries running move rows answer e is last reading reads moves =
    let P : Answer → Type 0 = λ a. IfSays asked a (IsToldOf name setup asked start (entries ++ e ∷ [])) in
    record {
      reading = reading_more name setup asked start entries running e reading;
      answered = subst P (sym is) (told_at_end asked move rows (IsToldOf name setup asked start (entries ++ e ∷ []))
          (if_tells asked move _ _ (λ told. read_more name asked start entries e (λ taken last. IsAnswerTo setup asked taken last told)) reads));
      moved = subst (IsMoveOf name setup asked start (entries ++ e ∷ [])) (sym is) (moved_at_end name setup asked start entries move rows e last moves);
    }

-- a reply that was entered, with its session's move
pub reads-took : (name : OperationSight) (setup : Setup) (asked : Asked) (start entries : List Entry) (running after : Option Running) (told : Option Answer) (message : Message) (move : Move) (e : Entry)
    → ((m : Message) → IsTakenFor message m → IsReplyIn name asked m e) → Reads name setup asked start entries running told
    → ((taken : List Message) → IsShown setup asked taken running → Shows setup asked taken message move (λ replies. IsShown setup asked replies after))
    → Reads name setup asked start (entries ++ e ∷ []) after told × IfTells asked move (IsToldOf name setup asked start (entries ++ e ∷ [])) × IsMovedBy name setup asked start (entries ++ e ∷ []) move
reads-took name setup asked start entries running after told message move e enters reads shows =
    let took = reading-took name setup asked start entries running after message move e enters reads.reading shows in
    (record { reading = took.0; answered = told_more name setup asked start entries e told reads.answered; moved = move_more name setup asked start entries e told reads.moved }, took.1, took.2)

-- nothing was entered yet
pub reads-start : (name : OperationSight) (setup : Setup) (asked : Asked) (start : List Entry) (running : Option Running) → IsShown setup asked [] running → Reads name setup asked start start running None
reads-start name setup asked start running shown = record {
  reading = record { more = []; is = sym (append-nil start); taken = []; among = tt; shown = shown };
  answered = tt;
  moved = tt;
}

-- ---- for the functions of an operation

-- the answer that an operation ends with was entered, and its place is used up
pub reads-ended : {X : Type 0} (name : OperationSight) (setup : Setup) (asked : Asked) (start entries after : List Entry) (running next : Option Running) (place : Option X) (told : Option Answer) (move : Move) (answer : Answer)
    → after ≡ entries ++ Answered answer ∷ [] → next ≡ running → IsNone place → ((rows : Rows) → answer ≡ at_seat (answer_of move rows)) → is_last move ≡ true
    → Reads name setup asked start entries running told → IfTells asked move (IsToldOf name setup asked start entries) → IsMovedBy name setup asked start entries move → Reads name setup asked start after next (told_by place answer)
reads-ended name setup asked start entries after running next (Some used) told move answer entered same none tells last reads says moves = cc
reads-ended name setup asked start entries after running next None told move answer entered same none tells last reads says moves =
    let rows : Rows = record { first = 0; last = 0 } in
    let P : List Entry → Type 0 = λ es. Reads name setup asked start es next (Some answer) in
    let Q : Option Running → Type 0 = λ o. Reads name setup asked start (entries ++ Answered answer ∷ []) o (Some answer) in
    subst P (sym entered) (subst Q (sym same) (reads-answered name setup asked start entries running move rows answer (Answered answer) (tells rows) last reads.reading says moves))

-- a reply was entered, and its session took it
pub reads-served : {X : Type 0} (name : OperationSight) (setup : Setup) (asked : Asked) (start entries next : List Entry) (session kept after : ClientSession) (place left : Option X) (answer : Answer) (message : Message) (move : Move) (number partition at : ℕ) (reply : Reply)
    → next ≡ entries ++ Took number partition at reply ∷ [] → kept ≡ session → left ≡ place → ((m : Message) → IsTakenFor message m → IsReplyIn name asked m (Took number partition at reply))
    → ((setup : Setup) (asked : Asked) (taken : List Message) → IsShown setup asked taken kept.running → Shows setup asked taken message move (λ replies. IsShown setup asked replies after.running))
    → Reads name setup asked start entries session.running (told_by place answer)
    → Reads name setup asked start next after.running (told_by left answer) × IfTells asked move (IsToldOf name setup asked start next) × IsMovedBy name setup asked start next move
reads-served name setup asked start entries next session kept after place left answer message move number partition at reply entered same stays enters shows reads =
    let P : ClientSession → Type 0 = λ s. Reads name setup asked start entries s.running (told_by place answer) in
    let took = reads-took name setup asked start entries kept.running after.running (told_by place answer) message move (Took number partition at reply) enters (subst P (sym same) reads) (shows setup asked) in
    let Q : Option Answer → Type 0 = λ o. Reads name setup asked start (entries ++ Took number partition at reply ∷ []) after.running o in
    let R : List Entry → Type 0 = λ es. Reads name setup asked start es after.running (told_by left answer) × IfTells asked move (IsToldOf name setup asked start es) × IsMovedBy name setup asked start es move in
    subst R (sym entered) (subst Q (ap (λ o. told_by o answer) (sym stays)) took.0, took.1, took.2)

-- a read that begins has keys that may be read
good_keys : (opened runs bad : Bool) → cond opened (cond runs (Err Busy) (cond bad (Err BadItems) passed)) (Err Stopped) ≡ passed → bad ≡ false
good_keys false runs bad is = cc
good_keys true true bad is = cc
good_keys true false true is = cc
good_keys true false false is = refl

-- a write that begins has items that may be written
good_items : (opened runs bad used : Bool) → cond opened (cond runs (Err Busy) (cond bad (Err BadItems) (cond used (Err StampsUsed) passed))) (Err Stopped) ≡ passed → bad ≡ false
good_items false runs bad used is = cc
good_items true true bad used is = cc
good_items true false true used is = cc
good_items true false false used is = refl

-- so what begins for a request may begin
pub may_begin : (session : ClientSession) (request : SeatRequest) (asked : Asked) (own : Stamp) → asked ≡ intent_of own request → test_of session request ≡ passed → MayBegin asked
may_begin session (ask.Put items) asked own begins passes =
    subst MayBegin (sym begins) (good_items session.is_open (is_some session.running) (are_bad (keys_written items.now)) (nat_le counter_limit session.counter) passes)
may_begin session (ask.Get keys) asked own begins passes = subst MayBegin (sym begins) (good_keys session.is_open (is_some session.running) (are_bad keys.now) passes)
may_begin session (ask.Find tag) asked own begins passes = subst MayBegin (sym begins) tt

-- what begins writes under the stamp that was drawn for it, if it writes
pub stamp-begun : (own : Stamp) (told : Stamp) (request : SeatRequest) (asked : Asked) → asked ≡ intent_of own request → ((items : List Item) → asked ≡ Writes own items → told ≡ own) → IsStampOf told asked
stamp-begun own told (ask.Put items) asked begins drawn = subst (IsStampOf told) (sym begins) (drawn items.now begins)
stamp-begun own told (ask.Get keys) asked begins drawn = subst (IsStampOf told) (sym begins) tt
stamp-begun own told (ask.Find tag) asked begins drawn = subst (IsStampOf told) (sym begins) tt

-- a call under this stamp may be one of what was asked
pub under-asked : (own : Stamp) (asked : Asked) (call : Call) → IsStampOf own asked → IsUnder own call → IsOf asked call
under-asked own (Writes stamp items) call is under = subst (λ (s : Stamp). IsUnder s call) is under
under-asked own (Gets keys) call is under = tt
under-asked own (Finds tag) call is under = tt

-- what was reported from the beginning on, by what was read of it since
reads-whole : {X : Type 0} (name last : OperationSight) (setup : Setup) (asked : Asked) (started after : Option Running) (entries more : List Entry) (place left : Option X) (before answer : Answer) → IsShown setup asked [] started
    → ((start : List Entry) → Reads name setup asked start entries started (told_by place before) → Reads last setup asked start more after (told_by left answer)) → IsSome place → IsNone left → Reads last setup asked entries more after (Some answer)
reads-whole name last setup asked started after entries more place left before answer fresh read there none =
    let P : Option Answer → Type 0 = λ o. Reads name setup asked entries entries started o in
    let Q : Option Answer → Type 0 = λ o. Reads last setup asked entries more after o in
    subst Q (told-some left answer none) (read entries (subst P (sym (told-none place before there)) (reads-start name setup asked entries started fresh)))

-- so what is answered to a request reports the plain store's move
pub moves-begun : {X : Type 0} (name last : OperationSight) (parts : ℕ) (own : Stamp) (request : SeatRequest) (session : ClientSession) (started after : Option Running) (entries more : List Entry) (place left : Option X) (before answer : Answer) → test_of session request ≡ passed
    → ((setup : Setup) → setup.partitions ≡ parts → MayBegin (intent_of own request) → IsShown setup (intent_of own request) [] started)
    → ((setup : Setup) (start : List Entry) → Reads name setup (intent_of own request) start entries started (told_by place before) → Reads last setup (intent_of own request) start more after (told_by left answer))
    → IsSome place → IsNone left → IsMoveFor last parts own request answer entries more
moves-begun name last parts own request session started after entries more place left before answer passes shown read there none setup same =
    let asked = intent_of own request in
    let fresh = shown setup same (may_begin session request asked own refl passes) in
    runs_so answer _ (reads-whole name last setup asked started after entries more place left before answer fresh (read setup) there none).moved

-- what a request writes, reads or finds that began, and whose answer was entered
pub reads-begun : {X : Type 0} (name last : OperationSight) (parts : ℕ) (own : Stamp) (Drawn : Stamp → Type 0) (request : SeatRequest) (asked : Asked) (session started after : ClientSession) (entries more : List Entry) (place left : Option X) (before answer : Answer)
    → ((items : List Item) → asked ≡ Writes own items → Drawn own) → asked ≡ intent_of own request → test_of session request ≡ passed
    → ((setup : Setup) → setup.partitions ≡ parts → MayBegin asked → IsShown setup asked [] started.running)
    → ((setup : Setup) (start : List Entry) → Reads name setup asked start entries started.running (told_by place before) → Reads last setup asked start more after.running (told_by left answer))
    → IsSome place → IsNone left → IsToldFor last parts Drawn request answer entries more
reads-begun name last parts own Drawn request asked session started after entries more place left before answer drawn begins passes shown read there none = go request begins
  where
    may : MayBegin asked
    may = may_begin session request asked own begins passes

    -- what was reported from the beginning on
    whole : (setup : Setup) → IsShown setup asked [] started.running → IfSays asked answer (IsToldOf last setup asked entries more)
    whole setup fresh = (reads-whole name last setup asked started.running after.running entries more place left before answer fresh (read setup) there none).answered

    go : (request : SeatRequest) → asked ≡ intent_of own request → IsToldFor last parts Drawn request answer entries more
    go (ask.Put items) begins =
        let some : Setup = record { partitions = parts; room = record { slots = 0; items = 0; clients = 0 }; keep = 0 } in
        let Told : Setup → Stamp → Type 0 = λ setup told. (told ≡ own) × IsWriteOf last setup own items.now entries more in
        let tells : (setup : Setup) → setup.partitions ≡ parts → IfDone answer (Told setup) = λ setup is.
        let P : Asked → Type 0 = λ a. IfSays a answer (IsToldOf last setup a entries more) in
        subst P begins (whole setup (shown setup is may)) in (
          if_done answer (Told some) Drawn (λ told done. subst Drawn (sym done.0) (drawn items.now begins)) (tells some refl),
          λ setup is. if_done answer (Told setup) (λ told. IsWriteOf last setup told items.now entries more)
              (λ told done. subst (λ (s : Stamp). IsWriteOf last setup s items.now entries more) (sym done.0) done.1) (tells setup is),
        )
    go (ask.Get keys) begins =
        let setup : Setup = record { partitions = parts; room = record { slots = 0; items = 0; clients = 0 }; keep = 0 } in
        let P : Asked → Type 0 = λ a. IfSays a answer (IsToldOf last setup a entries more) in
        subst P begins (whole setup (shown setup refl may))
    go (ask.Find tag) begins = λ setup is.
        let P : Asked → Type 0 = λ a. IfSays a answer (IsToldOf last setup a entries more) in
        subst P begins (whole setup (shown setup is may))

-- a refusal reports no reading, and no stamp
pub reads-refused : (name : OperationSight) (parts : ℕ) (Drawn : Stamp → Type 0) (request : SeatRequest) (refusal : Refusal) (answer : Answer) (start entries : List Entry) → answer ≡ says.Refused refusal
    → IsToldFor name parts Drawn request answer start entries
reads-refused name parts Drawn (ask.Put items) refusal answer start entries is =
    let P : Answer → Type 0 = λ a. IsToldFor name parts Drawn (ask.Put items) a start entries in subst P (sym is) (tt, λ setup same. tt)
reads-refused name parts Drawn (ask.Get keys) refusal answer start entries is =
    let P : Answer → Type 0 = λ a. IfRead a (IsReadOf name keys.now start entries) in subst P (sym is) tt
reads-refused name parts Drawn (ask.Find tag) refusal answer start entries is = λ setup same.
    let P : Answer → Type 0 = λ a. IfListed a (IsListOf name setup tag start entries) in subst P (sym is) tt

pub moves-refused : (name : OperationSight) (parts : ℕ) (own : Stamp) (request : SeatRequest) (refusal : Refusal) (answer : Answer) (start entries : List Entry) → answer ≡ says.Refused refusal → IsMoveFor name parts own request answer start entries
moves-refused name parts own request refusal answer start entries is =
    let P : Answer → Type 0 = λ a. IsMoveFor name parts own request a start entries in subst P (sym is) (λ setup same. tt)

-- and what an operation answers is what it read, for all else reports a fault
pub moves-run : (name : OperationSight) (parts : ℕ) (own : Stamp) (told : Result (Unit {0}) Fault) (request : SeatRequest) (start begun entries after : List Entry) (entered answer : Answer) → OnOk told (IsMoveFor name parts own request entered begun entries)
    → begun ≡ start → OnOk told (answer ≡ entered) → IfErr told (λ f. answer ≡ says.Refused (refusal_of f)) → after ≡ entries → IsMoveFor name parts own request answer start after
moves-run name parts own (Ok done) request start begun entries after entered answer moved started same refused kept =
    let P : List Entry → Type 0 = λ es. IsMoveFor name parts own request answer start es in
    let Q : List Entry → Type 0 = λ es. IsMoveFor name parts own request answer es entries in
    let R : Answer → Type 0 = λ a. IsMoveFor name parts own request a begun entries in
    subst P (sym kept) (subst Q started (subst R (sym same) moved))
moves-run name parts own (Err f) request start begun entries after entered answer moved started same refused kept =
    moves-refused name parts own request (refusal_of f) answer start after refused

pub reads-run : (name : OperationSight) (parts : ℕ) (Drawn : Stamp → Type 0) (told : Result (Unit {0}) Fault) (request : SeatRequest) (start begun entries after : List Entry) (entered answer : Answer)
    → OnOk told (IsToldFor name parts Drawn request entered begun entries) → begun ≡ start → OnOk told (answer ≡ entered) → IfErr told (λ f. answer ≡ says.Refused (refusal_of f))
    → after ≡ entries → IsToldFor name parts Drawn request answer start after
reads-run name parts Drawn (Ok done) request start begun entries after entered answer read started same refused kept =
    let P : List Entry → Type 0 = λ es. IsToldFor name parts Drawn request answer start es in
    let Q : List Entry → Type 0 = λ es. IsToldFor name parts Drawn request answer es entries in
    let R : Answer → Type 0 = λ a. IsToldFor name parts Drawn request a begun entries in
    subst P (sym kept) (subst Q started (subst R (sym same) read))
reads-run name parts Drawn (Err f) request start begun entries after entered answer read started same refused kept =
    reads-refused name parts Drawn request (refusal_of f) answer start after refused

-- ---- what a seat has seen grows

in-later : (old new : OperationSight) (asked : Asked) (message : Message) (e : Entry) → IsLaterOperation old new → IsReplyIn old asked message e → IsReplyIn new asked message e
in-later old new asked message (began act) later is = absurd is
in-later old new asked message (Took number partition place reply) later is =
    (is.0, ∥∥₁_map is.1 (λ given. (given.0, given.1, given.2, operation-later old new partition number place given.0 reply later given.3)), is.2)
in-later old new asked message (Answered answer) later is = absurd is

among-later : (old new : OperationSight) (asked : Asked) (messages : List Message) (entries : List Entry) → IsLaterOperation old new → AreAmong old asked messages entries → AreAmong new asked messages entries
among-later old new asked [] entries later is = tt
among-later old new asked (m ∷ ms) [] later is = absurd is
among-later old new asked (m ∷ ms) (x ∷ xs) later (inl is) = inl (in-later old new asked m x later is.0, among-later old new asked ms xs later is.1)
among-later old new asked (m ∷ ms) (x ∷ xs) later (inr is) = inr (among-later old new asked (m ∷ ms) xs later is)

pub from-later : (old new : OperationSight) (asked : Asked) (start entries : List Entry) (Answers : List Message → Message → Type 0) → IsLaterOperation old new
    → IsFromReplies old asked start entries Answers → IsFromReplies new asked start entries Answers
from-later old new asked start entries Answers later from = record {
  more = from.more;
  is = from.is;
  taken = from.taken;
  last = from.last;
  among = among-later old new asked (from.taken ++ from.last ∷ []) from.more later from.among;
  answers = from.answers;
}

told-later : (old new : OperationSight) (setup : Setup) (asked : Asked) (start entries : List Entry) (told : Option Answer) → IsLaterOperation old new
    → IfTold told (λ answer. IfSays asked answer (IsToldOf old setup asked start entries)) → IfTold told (λ answer. IfSays asked answer (IsToldOf new setup asked start entries))
told-later old new setup asked start entries None later is = tt
told-later old new setup asked start entries (Some answer) later is =
    if_says asked answer _ _ (λ told. from-later old new asked start entries (λ taken last. IsAnswerTo setup asked taken last told) later) is

move-later : (old new : OperationSight) (setup : Setup) (asked : Asked) (start entries : List Entry) (told : Option Answer) → IsLaterOperation old new → IfTold told (IsMoveOf old setup asked start entries) → IfTold told (IsMoveOf new setup asked start entries)
move-later old new setup asked start entries None later is = tt
move-later old new setup asked start entries (Some answer) later is = from-later old new asked start entries _ later is

-- what was read so far is so by what is seen later
pub reads-later : (old new : OperationSight) (setup : Setup) (asked : Asked) (start entries : List Entry) (running : Option Running) (told : Option Answer) → IsLaterOperation old new
    → Reads old setup asked start entries running told → Reads new setup asked start entries running told
reads-later old new setup asked start entries running told later reads =
    let r = reads.reading in
    record {
      reading = record { more = r.more; is = r.is; taken = r.taken; among = among-later old new asked r.taken r.more later r.among; shown = r.shown };
      answered = told-later old new setup asked start entries told later reads.answered;
      moved = move-later old new setup asked start entries told later reads.moved;
    }

-- ---- what has the mark of a read or a search

with_later : (mark after : Mark) (before seen now : List HistoryEntry) → HasReadEntry mark seen before → IsPrefix seen now → after ≡ mark → HasReadEntry after now before
with_later mark after before seen now has pre same =
    let P : Mark → Type 0 = λ m. HasReadEntry m now before in
    let later : P mark = record {
      before = has.before;
      after = has.after ++ pre.0;
      stands = sym pre.1 ∙ ap (λ (l : List HistoryEntry). l ++ pre.0) has.stands ∙ append_assoc has.before (ReadBegan mark.word ∷ has.after) pre.0;
      behind = has.behind;
      marked = λ log all this that many. has.marked log all (prefix_join seen now all pre this) that many;
    } in
    subst P (sym same) later

own_later : (name : SeatName) (mark after : Mark) (before seen now : List HistoryEntry) → HasOwnReadEntry name mark seen before → IsPrefix seen now → after ≡ mark → HasOwnReadEntry name after now before
own_later name mark after before seen now has pre same =
    let P : Mark → Type 0 = λ m. HasOwnReadEntry name m now before in
    subst P (sym same) (record { entry = with_later mark mark before seen now has.entry pre refl; joined = prefix_has seen now _ pre has.joined })

-- it has what was seen before that, and so where what was seen has grown
pub shows_since : (whose : SeatName) (name : OperationSight) (parts : ℕ) (Drawn : Stamp → Type 0) (request : SeatRequest) (answer : Answer) (start entries : List Entry) (mark after : Mark) (before seen now : List HistoryEntry)
    → IsMarkedSince whose request mark seen before → IsPrefix seen now → after ≡ mark → IsToldFor name parts Drawn request answer start entries → IfShows request answer (HasOwnReadEntry whose after now before)
shows_since whose name parts Drawn (ask.Put items) answer start entries mark after before seen now since pre same told = tt
shows_since whose name parts Drawn (ask.Get keys) answer start entries mark after before seen now since pre same told =
    if_read answer (IsReadOf name keys.now start entries) (λ readings. HasOwnReadEntry whose after now before) (λ readings is. own_later whose mark after before seen now since pre same) told
shows_since whose name parts Drawn (ask.Find tag) answer start entries mark after before seen now since pre same told =
    let setup : Setup = record { partitions = parts; room = record { slots = 0; items = 0; clients = 0 }; keep = 0 } in
    if_listed answer (IsListOf name setup tag start entries) (λ readings. HasOwnReadEntry whose after now before) (λ readings is. own_later whose mark after before seen now since pre same) (told setup refl)

-- a refusal shows nothing
pub shows_refused : (request : SeatRequest) (refusal : Refusal) (answer : Answer) (P : Type 0) → answer ≡ says.Refused refusal → IfShows request answer P
shows_refused (ask.Put items) refusal answer P is = tt
shows_refused (ask.Get keys) refusal answer P is = let Q : Answer → Type 0 = λ a. IfRead a (λ told. P) in subst Q (sym is) tt
shows_refused (ask.Find tag) refusal answer P is = let Q : Answer → Type 0 = λ a. IfListed a (λ told. P) in subst Q (sym is) tt

-- and what an operation answers shows what it showed, for all else reports a fault
pub shows_run : (told : Result (Unit {0}) Fault) (request : SeatRequest) (entered answer : Answer) (P : Type 0)
    → OnOk told (IfShows request entered P) → OnOk told (answer ≡ entered) → IfErr told (λ f. answer ≡ says.Refused (refusal_of f)) → IfShows request answer P
shows_run (Ok done) request entered answer P shows same refused = let Q : Answer → Type 0 = λ a. IfShows request a P in subst Q (sym same) shows
shows_run (Err f) request entered answer P shows same refused = shows_refused request (refusal_of f) answer P refused

-- ---- what has begun, with what is seen later

pub begun_in_later : (seen now : List HistoryEntry) (tenant : ℕ) (asked : Asked) → IsPrefix seen now → HasBegunIn seen tenant asked → HasBegunIn now tenant asked
begun_in_later seen now tenant (Writes own items) pre has = (has.0, prefix_has seen now _ pre has.1)
begun_in_later seen now tenant (Gets keys) pre has = tt
begun_in_later seen now tenant (Finds tag) pre has = tt

pub marked_since_later : (name : SeatName) (request : SeatRequest) (mark : Mark) (seen now before : List HistoryEntry) → IsPrefix seen now → IsMarkedSince name request mark seen before → IsMarkedSince name request mark now before
marked_since_later name (ask.Put items) mark seen now before pre since = tt
marked_since_later name (ask.Get keys) mark seen now before pre since = own_later name mark mark before seen now since pre refl
marked_since_later name (ask.Find tag) mark seen now before pre since = own_later name mark mark before seen now since pre refl

-- a read's entry is that of the client whose word began it
own_read : {E : Type 0} (name : SeatName) (result : Result Mark E) (old new : ClientTrace) (before : List HistoryEntry) → IsOfClient name (Some old) → IsPrefix old.seen new.seen → IfOk result (λ mark. HasJoined mark.word old)
    → IfOk result (λ mark. HasReadEntry mark new.seen before) → IfOk result (λ mark. HasOwnReadEntry name mark new.seen before)
own_read name (Err found) old new before its later joined since = tt
own_read name (Ok mark) old new before its later joined since =
    let P : ℕ → Type 0 = λ t. Joined (record { word = mark.word; tenant = t; client = name.client }) ∈ new.seen in
    let Q : ℕ → Type 0 = λ n. Joined (record { word = mark.word; tenant = old.tenant; client = n }) ∈ new.seen in
    record { entry = since; joined = subst P its.0 (subst Q its.1 (prefix_has old.seen new.seen _ later joined)) }

pub marked_read : {E : Type 0} (name : SeatName) (request : SeatRequest) (result : Result Mark E) (old new : ClientTrace) (before : List HistoryEntry) → IsOfClient name (Some old) → IsPrefix old.seen new.seen
    → IfOk result (λ mark. HasJoined mark.word old) → IfOk result (λ mark. HasReadEntry mark new.seen before) → IfOk result (λ mark. IsMarkedSince name request mark new.seen before)
marked_read name (ask.Put items) (Err found) old new before its later joined since = tt
marked_read name (ask.Put items) (Ok mark) old new before its later joined since = tt
marked_read name (ask.Get keys) result old new before its later joined since = own_read name result old new before its later joined since
marked_read name (ask.Find tag) result old new before its later joined since = own_read name result old new before its later joined since

-- ---- what is said twice of an answer

pub both_read : (answer : Answer) (P Q R : List Reading → Type 0) → ((told : List Reading) → P told → Q told → R told) → IfRead answer P → IfRead answer Q → IfRead answer R
both_read (says.Refused refusal) P Q R so one two = tt
both_read (says.Ready counter) P Q R so one two = tt
both_read (says.PutBegun stamp rows) P Q R so one two = tt
both_read (says.GetBegun rows) P Q R so one two = tt
both_read (says.FindBegun rows) P Q R so one two = tt
both_read (says.Replied row reply) P Q R so one two = tt
both_read says.Ignored P Q R so one two = tt
both_read says.Wait P Q R so one two = tt
both_read (says.Decided stamp rows) P Q R so one two = tt
both_read (says.Done stamp) P Q R so one two = tt
both_read (says.Ask rows) P Q R so one two = tt
both_read (says.BeginsRead rows) P Q R so one two = tt
both_read (says.Read told) P Q R so one two = so told one two
both_read (says.Listed told) P Q R so one two = absurd one
both_read (says.Restart key floor) P Q R so one two = tt
both_read (says.Ended refusal rows) P Q R so one two = tt
both_read says.Lost P Q R so one two = tt
both_read says.Stopped P Q R so one two = tt
both_read (says.Sent rows) P Q R so one two = tt
both_read (says.Freed count) P Q R so one two = tt
both_read (says.Keeps keep) P Q R so one two = tt

pub both_listed : (answer : Answer) (P Q R : List Reading → Type 0) → ((told : List Reading) → P told → Q told → R told) → IfListed answer P → IfListed answer Q → IfListed answer R
both_listed (says.Refused refusal) P Q R so one two = tt
both_listed (says.Ready counter) P Q R so one two = tt
both_listed (says.PutBegun stamp rows) P Q R so one two = tt
both_listed (says.GetBegun rows) P Q R so one two = tt
both_listed (says.FindBegun rows) P Q R so one two = tt
both_listed (says.Replied row reply) P Q R so one two = tt
both_listed says.Ignored P Q R so one two = tt
both_listed says.Wait P Q R so one two = tt
both_listed (says.Decided stamp rows) P Q R so one two = tt
both_listed (says.Done stamp) P Q R so one two = tt
both_listed (says.Ask rows) P Q R so one two = tt
both_listed (says.BeginsRead rows) P Q R so one two = tt
both_listed (says.Read told) P Q R so one two = absurd one
both_listed (says.Listed told) P Q R so one two = so told one two
both_listed (says.Restart key floor) P Q R so one two = tt
both_listed (says.Ended refusal rows) P Q R so one two = tt
both_listed says.Lost P Q R so one two = tt
both_listed says.Stopped P Q R so one two = tt
both_listed (says.Sent rows) P Q R so one two = tt
both_listed (says.Freed count) P Q R so one two = tt
both_listed (says.Keeps keep) P Q R so one two = tt
