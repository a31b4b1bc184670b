-- What a read may not miss.
use Rattle.std.specs.Prelude.{ℕ, ◌≡◌, List, true}
use Rattle.plain_store.specs.declared.calls.Call.TheVariants.{Commit}
use Rattle.plain_store.specs.Words.{◌∈◌, Item, Key, Stamp}
use Rattle.plain_store.specs.Log.{Log, is_committed}
use Rattle.plain_store.specs.Replies.{log_of}
use Rattle.history.specs.declared.entry.HistoryEntry.{HistoryEntry}
use Rattle.history.specs.declared.entry.HistoryEntry.TheVariants.{Began, Served}
use Rattle.history.specs.declared.entry.ServedCall.{ServedCall}
use Rattle.history.specs.declared.entry.Write.{Write}
use Rattle.history.specs.Entries.{calls_served, room_of}
use Rattle.history.specs.Legal.{IsKeyHome}

-- what a tenant's cell at a partition has come to: the calls that it was served, each with its reply, newest first
abbrev pub log_in : List HistoryEntry → ℕ → ℕ → Log
log_in log tenant partition = log_of (room_of log tenant) (calls_served tenant partition log)

-- the tenant's version of this key and stamp is committed at the home of the key
pub record IsCommittedIn (log : List HistoryEntry) (tenant : ℕ) (key : Key) (stamp : Stamp) : Type 0 where
  pub partition : ℕ
  pub home : IsKeyHome log key partition
  pub committed : is_committed (log_in log tenant partition) key stamp ≡ true

-- a COMMIT of a put commits each of its keys that has the partition as its home
abbrev pub CommitsKeys : List HistoryEntry → Type 0
CommitsKeys log = (served : ServedCall) (write : Write) (item : Item) → Served served ∈ log → served.call ≡ Commit write.stamp
    → Began write ∈ log → write.tenant ≡ served.tenant → item ∈ write.items → IsKeyHome log item.key served.partition
    → IsCommittedIn log served.tenant item.key write.stamp
