-- What contracts see of a tenant's journal, and what agrees with it.
use Rattle.std.specs.Prelude.{◌≡◌, ◌<◌, ◌⊎◌, ◌+◌, ◌^◌, ℕ, Bool, not, nat_eq}
use Rattle.std.specs.Prelude.{List, [], ◌∷◌, ◌++◌, length, Option, Some, None}
use Rattle.std.specs.Prelude.{slice_get, sum_by, count_by, All}
use Rattle.stamps.specs.declared.bounds.Limits.{Limits}
use Rattle.plain_store.specs.Log.{Log}
use Rattle.plain_store.specs.Replies.{reply_after}
use Rattle.plain_store.specs.Words.{Room}
use Rattle.plain_store.specs.declared.calls.Call.{Call}
use Rattle.plain_store.specs.declared.calls.Reply.{Reply}
use Rattle.prepare_commit.specs.Bases.{Frozen, Leaves, empty_base}
use Rattle.partition.specs.Events.{Event}
use Rattle.partition.specs.declared.journal.Epoch.{Epoch}
use Rattle.partition.specs.declared.journal.Journal.{Journal}
use Rattle.partition.specs.Journals.{IsSoundFrom, IsEnd, room_for, log_after}

-- the number of an epoch, how many places were given before it, and the base at which it began
pub record EpochStart : Type 0 where
  pub number : ℕ
  pub before : ℕ
  pub base : Frozen

-- a tenant's limits, its epoch, and the events of this epoch in order
pub record Account : Type 0 where
  pub limits : Limits
  pub start : EpochStart
  pub events : List Event

abbrev pub epoch_start_of : Journal → EpochStart
epoch_start_of journal = record { number = journal.number; before = journal.before; base = journal.base }

abbrev pub account_of : Journal → Account
account_of journal = record { limits = journal.limits; start = epoch_start_of journal; events = journal.events.items }

-- the first epoch, where it begins at a base
abbrev pub epoch_start_at : Frozen → EpochStart
epoch_start_at base = record { number = 1; before = 0; base = base }

-- no event, and the first epoch at a base
abbrev pub account_at : Limits → Frozen → Account
account_at limits base = record { limits = limits; start = epoch_start_at base; events = [] }

abbrev pub new_account : Limits → Account
new_account limits = account_at limits (empty_base (room_for limits))

abbrev pub with_event : Account → Event → Account
with_event account e = record { limits = account.limits; start = account.start; events = account.events ++ e ∷ [] }

-- how many places were given in all epochs
abbrev pub places : Account → ℕ
places account = account.start.before + length account.events

-- the account after its epoch was cut, where the next one begins at this base
abbrev pub next_account : Account → Frozen → Account
next_account account base = record {
  limits = account.limits;
  start = record { number = account.start.number + 1; before = places account; base = base };
  events = [];
}

-- more than 2^62 places, or numbers of epochs, were given
abbrev pub IsPast : Account → Type 0
IsPast account = (2 ^ 62 < places account) ⊎ (2 ^ 62 < account.start.number)

-- ---- one tenant's account in a list; where there is none, an empty one without room

abbrev pub events_in : Option Account → List Event
events_in None = []
events_in (Some account) = account.events

abbrev pub room_in : Option Account → Room
room_in None = record { slots = 0; items = 0; clients = 0 }
room_in (Some account) = room_for account.limits

abbrev pub before_in : Option Account → ℕ
before_in None = 0
before_in (Some account) = account.start.before

abbrev pub base_in : Option Account → Frozen
base_in None = empty_base (record { slots = 0; items = 0; clients = 0 })
base_in (Some account) = account.start.base

abbrev pub IsPastIn : Option Account → Type 0
IsPastIn None = ⊥
IsPastIn (Some account) = IsPast account

unfoldable pub events_at : List Account → ℕ → List Event
events_at accounts tenant = events_in (slice_get accounts tenant)

unfoldable pub account_room : List Account → ℕ → Room
account_room accounts tenant = room_in (slice_get accounts tenant)

-- how many places were given before the tenant's epoch
unfoldable pub before_at : List Account → ℕ → ℕ
before_at accounts tenant = before_in (slice_get accounts tenant)

-- the base at which the tenant's epoch began
unfoldable pub base_at : List Account → ℕ → Frozen
base_at accounts tenant = base_in (slice_get accounts tenant)

-- the tenant's account is past its counts
unfoldable pub IsPastAt : List Account → ℕ → Type 0
IsPastAt accounts tenant = IsPastIn (slice_get accounts tenant)

-- the reply is the one after every log that the base of the tenant's epoch stands for, followed by the epoch's calls
abbrev pub IsReplyInEpoch : List Account → ℕ → Call → Reply → Type 0
IsReplyInEpoch accounts tenant call reply =
    (log : Log) → Leaves (base_at accounts tenant) log
    → reply ≡ reply_after (account_room accounts tenant) (log_after (events_at accounts tenant) ++ log) call

-- exactly one event more, of this tenant
pub record IsEntered (old new : List Account) (tenant : ℕ) (e : Event) : Type 0 where
  pub own : (account : Account) → slice_get old tenant ≡ Some account
      → slice_get new tenant ≡ Some (with_event account e)
  pub others : (other : ℕ) → (other ≡ tenant → ⊥) → slice_get new other ≡ slice_get old other
  pub tenants : length new ≡ length old

-- ---- the numbers of events

-- seat 0 is the collector
abbrev pub is_of_seat : Event → Bool
is_of_seat e = not (nat_eq e.seat 0)

abbrev pub is_of_collector : Event → Bool
is_of_collector e = nat_eq e.seat 0

abbrev pub seat_events : List Account → ℕ
seat_events accounts = sum_by (λ (a : Account). count_by is_of_seat a.events) accounts

abbrev pub collector_events : List Account → ℕ
collector_events accounts = sum_by (λ (a : Account). count_by is_of_collector a.events) accounts

-- each tenant's epoch began at a base of its own limits, and is sound from there
abbrev pub AreSound : List Account → Type 0
AreSound accounts =
    All (λ (a : Account). (a.start.base.room ≡ room_for a.limits) × IsSoundFrom a.start.base a.events) accounts

-- ---- the end of an epoch

-- the epoch has what the account had, and the next one begins, without an event, at the content to which it led
pub record EndsEpoch (old new : Account) (epoch : Epoch) : Type 0 where
  pub number : epoch.number ≡ old.start.number
  pub base : epoch.base ≡ old.start.base
  pub events : epoch.events.items ≡ old.events
  pub sound : IsSoundFrom epoch.base epoch.events.items
  pub blank : new.events ≡ []
  pub begun : (end : Frozen) × IsEnd old.start.base old.events end × (new ≡ next_account old end)

-- the epoch has what the tenant's account had, and the next one begins at the content to which it led
pub record IsCut (old new : List Account) (tenant : ℕ) (epoch : Epoch) : Type 0 where
  pub given : (account : Account) → slice_get old tenant ≡ Some account
      → (epoch.number ≡ account.start.number) × (epoch.base ≡ account.start.base)
      × (epoch.events.items ≡ account.events)
  pub begun : (account : Account) → slice_get old tenant ≡ Some account
      → (base : Frozen) × IsEnd account.start.base account.events base
      × (slice_get new tenant ≡ Some (next_account account base))
  pub others : (other : ℕ) → (other ≡ tenant → ⊥) → slice_get new other ≡ slice_get old other
  pub tenants : length new ≡ length old
  pub sound : IsSoundFrom epoch.base epoch.events.items
