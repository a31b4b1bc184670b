-- How an event is packed, and what is read of it.
use Rattle.std.specs.Prelude.{◌≡◌, ◌<◌, ◌^◌, ◌++◌, ℕ, Bool, List, map, Option, Some, None, IsTrue, if◌then◌else◌}
use Rattle.std.specs.List.{AllByRecursion}
use Rattle.plain_store.specs.declared.calls.Call.{Call}
use Rattle.plain_store.specs.declared.calls.Call.TheVariants.{Commit}
use Rattle.plain_store.specs.declared.calls.Reply.{Reply}
use Rattle.plain_store.specs.declared.calls.Reply.TheVariants.{Committed}
use Rattle.packed.specs.Packing.{packed_number}
use Rattle.packed_steps.specs.PackedCalls.{packed_call, packed_reply, IsStoreCall, IsStoreReply}
use Rattle.packed.specs.Reading.{◌>>=◌, number_at}
use Rattle.packed_steps.specs.PackedCalls.{call_at, reply_at}
use Rattle.partition.specs.Events.{Event, event, is_reply_to}

-- the seat, the number, the call and the reply, one behind the other
abbrev pub packed_event : Event → List ℕ
packed_event e = packed_number e.seat ++ packed_number e.number ++ packed_call e.call ++ packed_reply e.reply

-- what each event of the store meets
pub record IsStoreEvent (e : Event) : Type 0 where
  pub seat : e.seat < 2 ^ 64
  pub number : e.number < 2 ^ 64
  pub call : IsStoreCall e.call
  pub reply : IsStoreReply e.reply
  pub fits : IsTrue (is_reply_to e.call e.reply)

-- none where the reply is not one to such a call
abbrev pub event_from : ℕ → ℕ → Call → Reply → Option Event
event_from seat number call reply =
    if is_reply_to call reply then Some (event seat number call reply) else None

unfoldable pub event_at : List ℕ → Option Event
event_at bytes = do
  seat ← number_at bytes
  number ← number_at seat.1
  call ← call_at number.1
  reply ← reply_at call.1
  event_from seat.0 number.0 call.0 reply.0

-- the seat, the number and the call at the front of the bytes, and the bytes behind them
unfoldable pub called_at : List ℕ → Option (ℕ × ℕ × Call × List ℕ)
called_at bytes = do
  seat ← number_at bytes
  number ← number_at seat.1
  call ← call_at number.1
  Some (seat.0, number.0, call.0, call.1)

abbrev pub reply_or : Reply → Option (Reply × List ℕ) → Reply
reply_or other None = other
reply_or other (Some read) = read.0

-- the reply that the bytes are packed of; of other bytes, any
abbrev pub reply_in : List ℕ → Reply
reply_in bytes = reply_or (Committed 0) (reply_at bytes)

-- the bytes are those of a reply, and nothing else
abbrev pub IsPackedReply : List ℕ → Type 0
IsPackedReply bytes = IsStoreReply (reply_in bytes) × (bytes ≡ packed_reply (reply_in bytes))

-- the seat and the number at the front of the bytes
abbrev pub caller_at : List ℕ → Option (ℕ × ℕ)
caller_at bytes = do
  seat ← number_at bytes
  number ← number_at seat.1
  Some (seat.0, number.0)

-- the seat that called, and its number for the call
abbrev pub caller_of : Event → ℕ × ℕ
caller_of e = (e.seat, e.number)

abbrev pub event_or : Event → Option Event → Event
event_or other None = other
event_or other (Some e) = e

-- the event that the bytes are packed of; of other bytes, any
abbrev pub event_in : List ℕ → Event
event_in bytes = event_or (event 0 0 (Commit 0) (Committed 0)) (event_at bytes)

-- the bytes are those of an event, and nothing else
abbrev pub IsPackedEvent : List ℕ → Type 0
IsPackedEvent bytes = IsStoreEvent (event_in bytes) × (bytes ≡ packed_event (event_in bytes))

abbrev pub ArePackedEvents : List (List ℕ) → Type 0
ArePackedEvents = AllByRecursion IsPackedEvent

abbrev pub events_in : List (List ℕ) → List Event
events_in = map event_in

-- what contracts see of a list of events: the events in order, and whether there is room for one more
pub record Happenings : Type 0 where
  pub items : List Event
  pub has_room : Bool
