-- What the entries of a running store's history say of a word, of a tenant, and of a partition. The oldest entry stands first.
use Rattle.std.specs.Prelude.{◌≡◌, ◌≤◌, ℕ, ◌+◌, ◌==◌, ◌&&◌, Bool, false, cond, List, [], ◌∷◌, ◌++◌, map, reverse, filter, length, slice_get, Option, Some, None}
use Rattle.std.specs.List.{filter_map}
use mathlib.Core.List.{IsPrefix}
use Rattle.stamps.specs.Limits.{max_parts}
use Rattle.stamps.specs.declared.bounds.Limits.{Limits}
use Rattle.plain_store.specs.Words.{Room}
use Rattle.plain_store.specs.declared.calls.Call.{Call}
use Rattle.plain_store.specs.declared.calls.Reply.{Reply}
use Rattle.plain_store.specs.Replies.{reply_to}
use Rattle.history.specs.declared.entry.HistoryEntry.{HistoryEntry}
use Rattle.history.specs.declared.entry.HistoryEntry.TheVariants.{Opened, Joined, Arrived, Began, Decided, GivenUp, ReadBegan, Drew, Passed, Served}
use Rattle.history.specs.declared.entry.Mark.{Mark}
use Rattle.history.specs.declared.entry.ServedCall.{ServedCall}

-- the clock of a tenant is a word that counts what was drawn of it, and what it went on by besides
abbrev pub clock_of : ℕ → ℕ
clock_of tenant = max_parts + 1 + tenant

-- whether the word k counts the entry: word 0 counts the clients, word p + 1 what partition p served, and each tenant has a clock
-- and each client a word of its own
abbrev pub is_of : ℕ → HistoryEntry → Bool
is_of k (Opened setting) = false
is_of k (Joined member) = 0 == k
is_of k (Arrived word) = word == k
is_of k (Began write) = write.word == k
is_of k (Decided decision) = decision.word == k
is_of k (GivenUp decision) = decision.word == k
is_of k (ReadBegan word) = word == k
is_of k (Drew drawn) = clock_of drawn.tenant == k
is_of k (Passed tenant) = clock_of tenant == k
is_of k (Served served) = (served.partition + 1) == k

-- the entries that the word counts
abbrev pub own : ℕ → List HistoryEntry → List HistoryEntry
own k log = filter (is_of k) log

-- all entries but the last
abbrev pub but_last : List HistoryEntry → List HistoryEntry
but_last [] = []
but_last (e ∷ []) = []
but_last (e ∷ d ∷ log) = e ∷ but_last (d ∷ log)

abbrev pub count : ℕ → List HistoryEntry → ℕ
count k log = length (own k log)

-- the entries of the mark are there
abbrev pub HasMark : List HistoryEntry → Mark → Type 0
HasMark log mark = mark.entries ≤ count mark.word log

-- how many partitions the store has
abbrev pub parts_of : List HistoryEntry → ℕ
parts_of [] = 0
parts_of (Opened setting ∷ log) = setting.parts
-- a history begins with its opening
parts_of (e ∷ log) = 0

abbrev pub limits_of : List HistoryEntry → List Limits
limits_of [] = []
limits_of (Opened setting ∷ log) = setting.limits
-- a history begins with its opening
limits_of (e ∷ log) = []

abbrev pub room_in : Option Limits → Room
room_in None = record { slots = 0; items = 0; clients = 0 }
room_in (Some limits) = record { slots = limits.slots; items = limits.items; clients = limits.clients }

-- the room that a tenant has at each partition
abbrev pub room_of : List HistoryEntry → ℕ → Room
room_of log tenant = room_in (slice_get (limits_of log) tenant)

-- a call that was served for this tenant at this partition
abbrev pub served_to : ℕ → ℕ → HistoryEntry → Option ServedCall
served_to tenant partition (Served served) = cond (served.tenant == tenant && served.partition == partition) (Some served) None
-- no other entry is one
served_to tenant partition e = None

-- the calls that a partition served for a tenant
abbrev pub served_at : ℕ → ℕ → List HistoryEntry → List ServedCall
served_at tenant partition log = filter_map (served_to tenant partition) log

-- these calls alone, newest first
abbrev pub calls_of : List ServedCall → List Call
calls_of served = reverse (map (λ (s : ServedCall). s.call) served)

abbrev pub calls_served : ℕ → ℕ → List HistoryEntry → List Call
calls_served tenant partition log = calls_of (served_at tenant partition log)

-- what the partition replies to a tenant's call after this history
abbrev pub reply_in : List HistoryEntry → ℕ → ℕ → Call → Reply
reply_in log tenant partition call = reply_to (room_of log tenant) (calls_served tenant partition log) call

-- The call stands in the history, as the so many-th of the tenant's at the partition, and this is the reply there.
pub record StandsInHistory (log : List HistoryEntry) (served : ServedCall) (place : ℕ) (reply : Reply) : Type 0 where
  pub before : List HistoryEntry
  pub after : List HistoryEntry
  pub stands : log ≡ before ++ Served served ∷ after
  pub place_is : place ≡ length (calls_served served.tenant served.partition before) + 1
  pub reply_is : reply ≡ reply_in before served.tenant served.partition served.call

-- so behind all that was seen
pub record StandsBehind (seen log : List HistoryEntry) (served : ServedCall) (place : ℕ) (reply : Reply) : Type 0 where
  pub stands : StandsInHistory log served place reply
  pub behind : IsPrefix seen stands.before
