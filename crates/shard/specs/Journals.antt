-- What the journals of a partition hold, and what a reply is by them.
use Rattle.std.specs.Prelude.{◌<◌, ℕ, Result, Err, IfOk, IsSomeAnd}
use Rattle.std.specs.Prelude.{List, length, All}
use Rattle.plain_store.specs.declared.calls.Call.{Call}
use Rattle.plain_store.specs.declared.calls.Reply.{Reply}
use Rattle.plain_store.specs.declared.message.Message.{Message}
use Rattle.partition.specs.declared.journal.Epoch.{Epoch}
use Rattle.partition.specs.Events.{Event}
use Rattle.partition.specs.Accounts.{Account, AreSound, IsCut, events_at}
use Rattle.history.specs.declared.entry.HistoryEntry.{HistoryEntry}
use Rattle.history.specs.declared.entry.ServedCall.{ServedCall}
use Rattle.history.specs.declared.entry.Mark.{Mark}
use Rattle.history.specs.Entries.{HasMark, StandsInHistory}
use Rattle.shard.specs.declared.jobs.Fault.{Fault}
use Rattle.shard.specs.declared.jobs.Fault.TheVariants.{NoTenant}
use Rattle.shard.specs.declared.shard.CallState.{CallState}
use Rattle.shard.specs.declared.shard.CallState.TheVariants.{Pending, Deferred, Served}
use Rattle.shard.specs.Homes.{HasHome}

-- The journals are those of this partition, one of so many: each is sound from its base, and each of its calls
-- has its home here.
pub record AreOf (parts partition : ℕ) (accounts : List Account) : Type 0 where
  pub sound : AreSound accounts
  pub home : (tenant : ℕ) → All (λ (e : Event). HasHome e.call parts partition) (events_at accounts tenant)

-- the call of a message, with its seat and number, as an entry of the history
abbrev pub served_call : ℕ → ℕ → ℕ → ℕ → Call → ServedCall
served_call partition tenant seat number call =
    record { partition = partition; tenant = tenant; seat = seat; number = number; call = call }

-- The seat's call of this number was served for this tenant at this partition: the history that was seen has the call there, at this
-- place of the tenant's calls, behind the mark, and the reply is the definition's after the tenant's calls before it.
pub record IsServedIn (seen : List HistoryEntry) (mark : Mark) (partition tenant seat number at : ℕ) (call : Call) (reply : Reply) : Type 0 where
  pub stands : StandsInHistory seen (served_call partition tenant seat number call) at reply
  pub late : HasMark stands.before mark

-- so of a message with its reply in it
abbrev pub HasReplyIn : List HistoryEntry → Mark → ℕ → ℕ → ℕ → ℕ → Message → ℕ → Type 0
HasReplyIn seen mark partition tenant seat number message at =
    IsSomeAnd message.reply (λ reply. IsServedIn seen mark partition tenant seat number at message.call reply)

-- what came of a call of a seat: where it was served at a place, there is a reply that was given there
abbrev pub CameSo : List HistoryEntry → Mark → ℕ → ℕ → ℕ → ℕ → Message → Result ℕ Fault → Type 0
CameSo seen mark partition tenant seat number message outcome =
    ∥ IfOk outcome (HasReplyIn seen mark partition tenant seat number message) ∥₁

-- what has come of a staged call; one that was not served has no tenant
abbrev pub came_to : CallState → Result ℕ Fault
came_to Pending = Err NoTenant
came_to Deferred = Err NoTenant
came_to (Served outcome) = outcome

-- a cut of that tenant's journal, among those of the partition before and after it, gave the epoch
pub record IsCutOf (partition tenant : ℕ) (epoch : Epoch) : Type 0 where
  pub parts : ℕ
  pub before : List Account
  pub after : List Account
  pub journals : AreOf parts partition before
  pub there : tenant < length before
  pub cut : IsCut before after tenant epoch

-- a cut of that tenant's journal at this partition gave the epoch
abbrev pub WasCut : ℕ → ℕ → Epoch → Type 0
WasCut partition tenant epoch = ∥ IsCutOf partition tenant epoch ∥₁
