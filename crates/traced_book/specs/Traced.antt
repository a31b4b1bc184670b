-- What a partition has of the history.
use Rattle.std.specs.Prelude.{ℕ, Bool, ◌≡◌, ◌+◌, ◌<◌, ◌++◌, List, length, map, slice_get, Some}
use mathlib.Core.List.{IsPrefix}
use Rattle.plain_store.specs.Replies.{log_of}
use Rattle.prepare_commit.specs.Bases.{Leaves}
use Rattle.partition.specs.declared.journal.Epoch.{Epoch}
use Rattle.partition.specs.Accounts.{Account, EpochStart}
use Rattle.partition.specs.Events.{Event}
use Rattle.partition.specs.Journals.{log_after, room_for}
use Rattle.history.specs.declared.entry.HistoryEntry.{HistoryEntry}
use Rattle.history.specs.declared.entry.ServedCall.{ServedCall}
use Rattle.history.specs.Entries.{calls_of, count, room_of, served_at}

-- an event of a tenant's journal at a partition, as a call of the history
abbrev pub served_of : ℕ → ℕ → Event → ServedCall
served_of partition tenant e =
    record { partition = partition; tenant = tenant; seat = e.seat; number = e.number; call = e.call }

-- The calls that the history has of the tenant at the partition are those of earlier epochs and then the account's events, of which each
-- has the reply after the calls before it. The epoch began where the earlier calls lead.
pub record IsTraced (log : List HistoryEntry) (partition tenant : ℕ) (account : Account) : Type 0 where
  pub earlier : List ServedCall
  pub calls : served_at tenant partition log ≡ earlier ++ map (served_of partition tenant) account.events
  pub places : length earlier ≡ account.start.before
  pub room : room_of log tenant ≡ room_for account.limits
  pub base : Leaves account.start.base (log_of (room_for account.limits) (calls_of earlier))
  pub replies : log_after account.events ++ log_of (room_for account.limits) (calls_of earlier)
      ≡ log_of (room_for account.limits) (calls_of (served_at tenant partition log))

abbrev pub AreTraced : List HistoryEntry → ℕ → List Account → Type 0
AreTraced log partition accounts = (tenant : ℕ) (account : Account) → slice_get accounts tenant ≡ Some account → IsTraced log partition tenant account

-- which partition it is, whether it keeps journals, the tenants' accounts, and what was seen of the history
pub record Tracing : Type 0 where
  pub partition : ℕ
  pub journals : Bool
  pub accounts : List Account
  pub seen : List HistoryEntry

-- These events are a stretch of the calls that the history has of the tenant at the partition, each with the reply after the calls before
-- it. They stand behind as many calls as their epoch says, and begin at its base, to which these led.
pub record IsStretch (log : List HistoryEntry) (partition tenant : ℕ) (start : EpochStart) (events : List Event) : Type 0 where
  pub earlier : List ServedCall
  pub later : List ServedCall
  pub calls : served_at tenant partition log ≡ (earlier ++ map (served_of partition tenant) events) ++ later
  pub places : length earlier ≡ start.before
  pub leads : Leaves start.base (log_of (room_of log tenant) (calls_of earlier))
  pub replies : log_after events ++ log_of (room_of log tenant) (calls_of earlier)
      ≡ log_of (room_of log tenant) (calls_of (earlier ++ map (served_of partition tenant) events))

-- The epoch has the last of the calls that the history has of the tenant at the partition: they are a stretch, and none stands behind them.
pub record IsLatestEpoch (log : List HistoryEntry) (partition tenant : ℕ) (epoch : Epoch) : Type 0 where
  pub before : ℕ
  pub stretch : IsStretch log partition tenant (record { number = epoch.number; before = before; base = epoch.base }) epoch.events.items
  pub latest : length (served_at tenant partition log) ≡ before + length epoch.events.items

-- what was found of the history has more calls of the partition than were seen
abbrev pub WereMoreServed : (seen found : List HistoryEntry) (partition : ℕ) → Type 0
WereMoreServed seen found partition = IsPrefix seen found × (count (partition + 1) seen < count (partition + 1) found)
