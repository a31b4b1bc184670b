-- What a sound journal is: each event follows those before it.
use Rattle.std.specs.Prelude.{◌≡◌, ◌<◌, ◌≤◌, ℕ, List, [], ◌∷◌, ◌++◌, cond, nat_eq, map, reverse}
use Rattle.std.specs.Prelude.{Option, Some, None, IsSomeAnd, IfSome}
use Rattle.stamps.specs.declared.bounds.Limits.{Limits}
use Rattle.plain_store.specs.Log.{Log, Exchange}
use Rattle.plain_store.specs.Replies.{reply_after}
use Rattle.plain_store.specs.Words.{Room}
use Rattle.prepare_commit.specs.Bases.{Frozen, Leaves}
use Rattle.partition.specs.Events.{Event}

-- the room that limits give a tenant at a partition
abbrev pub room_for : Limits → Room
room_for limits = record { slots = limits.slots; items = limits.items; clients = limits.clients }

-- ---- events newest first, so that what came before one is the rest of the list behind it

abbrev pub event_exchange : Event → Exchange
event_exchange e = record { call = e.call; reply = e.reply }

-- the number of the seat's last event, if it has one
abbrev pub last_from : ℕ → List Event → Option ℕ
last_from seat [] = None
last_from seat (e ∷ before) = cond (nat_eq e.seat seat) (Some e.number) (last_from seat before)

-- the reply is the one after the calls before, and the number is above the seat's last one
pub record FollowsEvents (room : Room) (before : List Event) (e : Event) : Type 0 where
  pub reply : e.reply ≡ reply_after room (map event_exchange before) e.call
  pub number : IfSome (last_from e.seat before) (λ last. last < e.number)

abbrev pub EachFollows : Room → List Event → Type 0
EachFollows room [] = Unit {0}
EachFollows room (e ∷ before) = FollowsEvents room before e × EachFollows room before

-- ---- events in the order in which they happened

-- the log that the events leave
abbrev pub log_after : List Event → Log
log_after events = map event_exchange (reverse events)

abbrev pub last_number : ℕ → List Event → Option ℕ
last_number seat events = last_from seat (reverse events)

-- a number that is not above the seat's last one
abbrev pub IsLate : List Event → ℕ → ℕ → Type 0
IsLate events seat number = IsSomeAnd (last_number seat events) (λ last. number ≤ last)

abbrev pub IsSoundUnder : Limits → List Event → Type 0
IsSoundUnder limits events = EachFollows (room_for limits) (reverse events)

-- ---- the events of an epoch, which began at a base

-- the reply is the one after every log that the base stands for, followed by the calls before it in the epoch; and the
-- number is above the seat's last one in the epoch
pub record FollowsFrom (base : Frozen) (before : List Event) (e : Event) : Type 0 where
  pub reply : (log : Log) → Leaves base log → e.reply ≡ reply_after base.room (map event_exchange before ++ log) e.call
  pub number : IfSome (last_from e.seat before) (λ last. last < e.number)

abbrev pub EachFollowsFrom : Frozen → List Event → Type 0
EachFollowsFrom base [] = Unit {0}
EachFollowsFrom base (e ∷ before) = FollowsFrom base before e × EachFollowsFrom base before

abbrev pub IsSoundFrom : Frozen → List Event → Type 0
IsSoundFrom base events = EachFollowsFrom base (reverse events)

-- the content to which events lead from a base: each log that the base stands for, followed by their calls, leaves it
pub record IsEnd (base : Frozen) (events : List Event) (end : Frozen) : Type 0 where
  pub room : end.room ≡ base.room
  pub leaves : (log : Log) → Leaves base log → Leaves end (log_after events ++ log)
