-- How an operation of a seat goes on, and what stays of it.
use Rattle.std.specs.Prelude.{◌≡◌, ◌<◌, ◌≤◌, ◌+◌, ℕ, true, false, List, Option, Some, Result, Ok, OnOk, IsNone, IsSome}
use mathlib.Core.List.{IsPrefix}
use Rattle.stamps.specs.Stamp.{stamp}
use Rattle.entry_list.specs.declared.kinds.Entry.{Entry}
use Rattle.plain_store.specs.declared.answer.Answer.{Answer}
use Rattle.plain_store.specs.declared.answer.Rows.{Rows}
use Rattle.plain_store.specs.History.{Intent}
use Rattle.plain_store.specs.Words.{Setup, Stamp}
use Rattle.history.specs.declared.rule.Naming.{Ghosts}
use Rattle.shard.specs.declared.jobs.Fault.{Fault}
use Rattle.shard.specs.declared.jobs.SeatReply.{SeatReply}
use Rattle.hub.specs.Evidence.{AreOfPuts, HasOwnReadEntry, IsMarkedSince, IsUnderWay}
use Rattle.hub.specs.Limits.{max_calls}
use Rattle.hub.specs.Replies.{AreServed, IfShows, IsDrawn, IsMovedBy, IsMoveFor, IsStampOf, IsToldFor, IsToldOf, Reads}
use Rattle.hub.specs.Requests.{intent_of, test_of}
use Rattle.hub.specs.Rooms.{HasRoom, awaited as to_come}
use Rattle.hub.specs.Seats.{EndsSo, Extends, Follows, at_seat, is_unrecorded, spare, told_by}
use Rattle.hub.specs.Sights.{OperationSight, operation_of, sight_of}
use Rattle.hub.specs.Taken.{replies_in}
use Rattle.tenant_sessions.specs.Begins.{HasBegun}
use Rattle.tenant_sessions.specs.CallsLeft.{calls_left, calls_waiting}
use Rattle.tenant_sessions.specs.Moves.{answer_of, is_last, moved}
use Rattle.tenant_sessions.specs.Sending.{waiting_of}
use Rattle.tenant_sessions.specs.Showing.{IfTells}
use Rattle.tenant_sessions.specs.declared.moves.MoveKind.{MoveKind}
use Rattle.hub.specs.declared.operation.RunningOperation.{RunningOperation}
use Rattle.hub.specs.declared.seat_request.SeatRequest.{SeatRequest}

-- ---- where it stands, with this place for its answer

-- what it has outstanding is so by its entries, for whoever sees so much
abbrev pub IsUnderWayAt : {G : Type 0} {naming : Ghosts G} → OperationSight → Stamp → RunningOperation G naming → Answer → Type 0
IsUnderWayAt sight own operation answer =
    ∥ IsUnderWay sight own operation.entries.items operation.session.running (told_by operation.place answer) ∥₁

-- its entries are those of a request that began behind these
abbrev pub ReadsAt : {G : Type 0} {naming : Ghosts G} → OperationSight → Setup → Intent → List Entry → RunningOperation G naming → Answer → Type 0
ReadsAt sight setup asked start operation answer =
    Reads sight setup asked start operation.entries.items operation.session.running (told_by operation.place answer)

-- ---- from one step to the next

-- its entries follow these as before, with what is answered by then
abbrev pub StillFollows : {G : Type 0} {naming : Ghosts G} → (old : RunningOperation G naming) → Answer → (new : RunningOperation G naming) → Answer → Type 0
StillFollows old before new after =
    (start : List Entry) → Follows start (told_by old.place before) old.entries.items → Follows start (told_by new.place after) new.entries.items

-- each reply that it entered was served, to a call of it that was sent
abbrev pub StillServed : {G : Type 0} {naming : Ghosts G} → (old new : RunningOperation G naming) → Type 0
StillServed old new =
    (start : List Entry) → AreServed (sight_of old.name old.seen) old.first (old.first + old.dispatcher.sent) start old.entries.items
    → AreServed (sight_of old.name new.seen) old.first (old.first + new.dispatcher.sent) start new.entries.items

-- all is the same but what is on its way
abbrev pub OnlySends : {G : Type 0} {naming : Ghosts G} → (old new : RunningOperation G naming) → Type 0
OnlySends old new =
    (new.name ≡ old.name) × (new.session ≡ old.session) × (new.entries ≡ old.entries) × (new.first ≡ old.first)
    × (new.place ≡ old.place) × (new.fault ≡ old.fault) × (new.readings ≡ old.readings) × (new.seen ≡ old.seen) × (new.mark ≡ old.mark)

-- one call more is staged
pub record StagesOne {G : Type 0} {naming : Ghosts G} (old new : RunningOperation G naming) : Type 0 where
  pub counted : new.dispatcher.sent ≡ old.dispatcher.sent + 1
  pub parts : new.dispatcher.parts ≡ old.dispatcher.parts
  pub rest : OnlySends old new

-- it is the same seat's, whose calls are numbered on from the same place, and what was seen of the history is seen still
pub record IsSameSeat {G : Type 0} {naming : Ghosts G} (old new : RunningOperation G naming) : Type 0 where
  pub name : new.name ≡ old.name
  pub first : new.first ≡ old.first
  pub seen : IsPrefix old.seen new.seen

-- so within one operation, whose mark stays
pub record GoesOnAs {G : Type 0} {naming : Ghosts G} (old new : RunningOperation G naming) : Type 0 where
  pub name : new.name ≡ old.name
  pub first : new.first ≡ old.first
  pub seen : IsPrefix old.seen new.seen
  pub mark : new.mark ≡ old.mark

-- the seat, its session, its mark and what was seen of the history are the same
pub record KeepsSession {G : Type 0} {naming : Ghosts G} (old new : RunningOperation G naming) : Type 0 where
  pub name : new.name ≡ old.name
  pub session : new.session ≡ old.session
  pub seen : new.seen ≡ old.seen
  pub mark : new.mark ≡ old.mark

-- so of one that begins, which may have seen more
pub record BeginsAs {G : Type 0} {naming : Ghosts G} (old new : RunningOperation G naming) : Type 0 where
  pub name : new.name ≡ old.name
  pub first : new.first ≡ old.first
  pub session : new.session ≡ old.session
  pub seen : IsPrefix old.seen new.seen
  pub mark : new.mark ≡ old.mark

-- all is the same, but more may have been seen of the history
pub record SeesMore {G : Type 0} {naming : Ghosts G} (old new : RunningOperation G naming) : Type 0 where
  pub name : new.name ≡ old.name
  pub dispatcher : new.dispatcher ≡ old.dispatcher
  pub session : new.session ≡ old.session
  pub first : new.first ≡ old.first
  pub place : new.place ≡ old.place
  pub fault : new.fault ≡ old.fault
  pub readings : new.readings ≡ old.readings
  pub entries : new.entries ≡ old.entries
  pub mark : new.mark ≡ old.mark
  pub seen : IsPrefix old.seen new.seen

-- all is the same but the entries and the room for the answer
pub record OnlyEnters {G : Type 0} {naming : Ghosts G} (old new : RunningOperation G naming) : Type 0 where
  pub name : new.name ≡ old.name
  pub first : new.first ≡ old.first
  pub session : new.session ≡ old.session
  pub seen : new.seen ≡ old.seen
  pub mark : new.mark ≡ old.mark
  pub dispatcher : new.dispatcher ≡ old.dispatcher
  pub fault : new.fault ≡ old.fault
  pub readings : new.readings ≡ old.readings

-- all is the same but what is on its way, and more may have been seen of the history
pub record SendsOn {G : Type 0} {naming : Ghosts G} (old new : RunningOperation G naming) : Type 0 where
  pub counted : old.dispatcher.sent ≤ new.dispatcher.sent
  pub name : new.name ≡ old.name
  pub session : new.session ≡ old.session
  pub entries : new.entries ≡ old.entries
  pub first : new.first ≡ old.first
  pub place : new.place ≡ old.place
  pub fault : new.fault ≡ old.fault
  pub readings : new.readings ≡ old.readings
  pub mark : new.mark ≡ old.mark
  pub seen : IsPrefix old.seen new.seen

-- ---- a move that is followed, and replies that are taken

-- What a move of the session leaves, with what was answered before and by then. The last move of an operation enters its answer, once; any
-- other enters nothing. No reply is entered, and what was entered before stays, served and read as it was.
pub record FollowsMove {G : Type 0} {naming : Ghosts G} (taken : MoveKind) (old : RunningOperation G naming) (before : Answer)
    (new : RunningOperation G naming) (after : Answer) : Type 0 where
  pub answered : is_last (moved taken old.readings.value) ≡ true → IsNone new.place
  pub told : (rows : Rows) → IsSome old.place → is_last (moved taken old.readings.value) ≡ true
      → after ≡ at_seat (answer_of (moved taken old.readings.value) rows)
  pub goes_on : is_last (moved taken old.readings.value) ≡ false → new.entries ≡ old.entries
  pub replies : replies_in new.entries.items ≡ replies_in old.entries.items
  pub room : old.entries.room + spare new.place ≤ new.entries.room + spare old.place
  pub ends : EndsSo old.place before → EndsSo new.place after
  pub entered : StillFollows old before new after
  pub read : (sight : OperationSight) (setup : Setup) (asked : Intent) (start : List Entry) → ReadsAt sight setup asked start old before
      → IfTells asked (moved taken old.readings.value) (IsToldOf sight setup asked start old.entries.items)
      → IsMovedBy sight setup asked start old.entries.items (moved taken old.readings.value)
      → ReadsAt sight setup asked start new after
  pub kept : Extends old.entries.items new.entries.items
  pub served : (first last : ℕ) (start : List Entry) → AreServed (sight_of old.name old.seen) first last start old.entries.items
      → AreServed (sight_of old.name new.seen) first last start new.entries.items

-- What a reply leaves to an operation under this stamp, with what was answered before and by then. It is entered at most
-- once, before what its session answers to it. All that was served and read before is so with it, for whoever sees the
-- reply.
pub record EntersReply {G : Type 0} {naming : Ghosts G} (own : Stamp) (reply : SeatReply G naming) (old : RunningOperation G naming)
    (before : Answer) (new : RunningOperation G naming) (after : Answer) : Type 0 where
  pub room : old.entries.room + spare new.place ≤ new.entries.room + 1 + spare old.place
  pub replies : replies_in new.entries.items ≤ replies_in old.entries.items + 1
  pub ends : EndsSo old.place before → EndsSo new.place after
  pub entered : StillFollows old before new after
  pub read : (sight : OperationSight) (setup : Setup) (asked : Intent) (start : List Entry) → IsStampOf own asked
      → reply.tenant ≡ sight.tenant → reply.seat ≡ sight.seat → reply.mark ≡ sight.mark → IsPrefix reply.front sight.seen
      → ReadsAt sight setup asked start old before → ReadsAt sight setup asked start new after
  pub served : (first last : ℕ) (start : List Entry) → reply.tenant ≡ old.name.tenant → reply.seat ≡ old.name.seat
      → IsPrefix reply.front old.seen → first < reply.number → reply.number ≤ last
      → AreServed (sight_of old.name old.seen) first last start old.entries.items
      → AreServed (sight_of old.name new.seen) first last start new.entries.items
  pub sent : old.dispatcher.sent ≤ new.dispatcher.sent
  pub counter : old.session.counter ≤ new.session.counter
  pub goes_on : GoesOnAs old new

-- What an operation under this stamp leaves that takes at most so many replies, with what was answered before and by then.
pub record TakesReplies {G : Type 0} {naming : Ghosts G} (takes : ℕ) (own : Stamp) (old : RunningOperation G naming) (before : Answer)
    (new : RunningOperation G naming) (after : Answer) : Type 0 where
  pub few : replies_in new.entries.items ≤ replies_in old.entries.items + takes
  pub entered : StillFollows old before new after
  pub read : (setup : Setup) (asked : Intent) (start : List Entry) → IsStampOf own asked
      → ReadsAt (operation_of old.name old.mark old.seen) setup asked start old before
      → ReadsAt (operation_of old.name old.mark new.seen) setup asked start new after
  pub served : StillServed old new
  pub counter : old.session.counter ≤ new.session.counter
  pub goes_on : GoesOnAs old new

-- ---- a whole operation, from how it began to how it ended

-- The session has begun the transaction of this request, in a store of so many partitions, and it writes under this
-- stamp, if it writes. That is entered in the history, behind all that was seen before, and nothing else is entered yet,
-- or sent. What may be sent has room, and is of this put.
pub record StartsUnder {G : Type 0} {naming : Ghosts G} (parts : ℕ) (request : SeatRequest) (own : Stamp)
    (old new : RunningOperation G naming) (answer : Answer) : Type 0 where
  pub passed : test_of old.session request ≡ Ok tt
  pub begun : HasBegun parts (intent_of (stamp (old.session.counter + 1) old.name.client) request) old.session new.session
  pub stamped : IsStampOf own (intent_of (stamp (old.session.counter + 1) old.name.client) request)
  pub since : IsMarkedSince old.name request new.mark new.seen old.seen
  pub under_way : IsUnderWayAt (operation_of new.name new.mark new.seen) own new answer
  pub puts : ∥ AreOfPuts new.seen new.name.tenant (waiting_of new.session.running) ∥₁
  pub calls : HasRoom (calls_waiting new.session.running + calls_left new.session.running) new.dispatcher
  pub room : max_calls + spare new.place ≤ new.entries.room
  pub place : IsSome new.place
  pub name : new.name ≡ old.name
  pub first : new.first ≡ old.first
  pub entries : new.entries ≡ old.entries
  pub dispatcher : new.dispatcher ≡ old.dispatcher
  pub seen : IsPrefix old.seen new.seen

-- What an operation of this request leaves, in a store of so many partitions, that takes at most so many replies and ends
-- like this. What is answered where it ends well was entered, and was read, and reports the plain store's move; each call
-- was answered then, and a read has its entry behind all that was seen before.
pub record Performs {G : Type 0} {naming : Ghosts G} (parts takes : ℕ) (request : SeatRequest) (told : Result (Unit {0}) Fault)
    (old new : RunningOperation G naming) (answer : Answer) : Type 0 where
  pub answered : OnOk told (Follows old.entries.items (Some answer) new.entries.items)
  pub few : replies_in new.entries.items ≤ replies_in old.entries.items + takes
  pub recorded : OnOk told (is_unrecorded answer ≡ false)
  pub read : OnOk told (IsToldFor (operation_of old.name new.mark new.seen) parts
      (IsDrawn old.name.client old.session.counter new.session.counter) request answer old.entries.items new.entries.items)
  pub moved : OnOk told (IsMoveFor (operation_of old.name new.mark new.seen) parts (stamp (old.session.counter + 1) old.name.client)
      request answer old.entries.items new.entries.items)
  pub counter : old.session.counter ≤ new.session.counter
  pub served : StillServed old new
  pub awaited : to_come old.dispatcher ≡ 0 → OnOk told (to_come new.dispatcher ≡ 0)
  pub entered : (said : Option Answer) × Follows old.entries.items said new.entries.items
  pub since : OnOk told (IfShows request answer (HasOwnReadEntry old.name new.mark new.seen old.seen))
  pub goes_on : IsSameSeat old new
