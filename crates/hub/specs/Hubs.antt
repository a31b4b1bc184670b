-- What contracts see of a hub, and what it leaves.
use Rattle.std.specs.Prelude.{◌≡◌, ◌⊎◌, ◌+◌, ◌≤◌, ℕ, Bool, true, List, [], ◌∷◌, length, map, get_or}
use Rattle.std.specs.Global.{Vec}
use Rattle.stamps.specs.declared.bounds.Limits.{Limits}
use Rattle.partition.specs.declared.book.Counts.{Counts}
use Rattle.partition.specs.declared.journal.Journal.{Journal}
use Rattle.partition.specs.Accounts.{Account, account_of, seat_events, collector_events, AreSound}
use Rattle.shard.specs.Journals.{AreOf}
use Rattle.closed_store.specs.declared.config.Config.{Config}
use Rattle.closed_store.specs.declared.closed.Closed.{Closed}
use Rattle.closed_store.specs.declared.transcript.Transcript.{Transcript}
use Rattle.history.specs.declared.entry.HistoryEntry.{HistoryEntry}
use Rattle.history.specs.Entries.{count}
use Rattle.traced_book.specs.Traced.{AreTraced}

-- partitions, tenants, the numbers that set the pace, and whether journals are kept
pub record ConfigView : Type 0 where
  pub parts : ℕ
  pub limits : List Limits
  pub queue : ℕ
  pub every : ℕ
  pub epoch : ℕ
  pub journals : Bool

-- that of a store which keeps journals
abbrev pub config_view : Config → ConfigView
config_view config =
    record {
      parts = config.parts;
      limits = config.limits.items;
      queue = config.queue;
      every = config.every;
      epoch = config.epoch;
      journals = true;
    }

-- that of a store which keeps journals, or none
abbrev pub view_with : Config → Bool → ConfigView
view_with config journals = record (config_view config) { journals = journals }

-- Of each tenant there is a journal, under its limits, and each call in it that names a key has its home at this partition.
pub record IsWhole (config : ConfigView) (at : ℕ) (accounts : List Account) : Type 0 where
  pub limits : map (λ (a : Account). a.limits) accounts ≡ config.limits
  pub of_partition : ∥ AreOf config.parts at accounts ∥₁

-- The journals of this partition are there as a whole, or none is. They are sound, each from the base of the epoch that is left
-- in it, which is one of its own limits; and the counts are those of the events that they have.
pub record IsSoundBook (config : ConfigView) (at : ℕ) (journals : Vec Journal) (counts : Counts) : Type 0 where
  pub whole : (journals.items ≡ []) ⊎ IsWhole config at (map account_of journals.items)
  pub sound : AreSound (map account_of journals.items)
  pub of_seats : counts.of_seats ≡ seat_events (map account_of journals.items)
  pub of_collector : counts.of_collector ≡ collector_events (map account_of journals.items)

-- partition by partition, in their order from this one on
abbrev pub AllSoundBooks : ConfigView → ℕ → List (Vec Journal) → List Counts → Type 0
AllSoundBooks config at [] [] = Unit {0}
AllSoundBooks config at (j ∷ js) (c ∷ cs) = IsSoundBook config at j c × AllSoundBooks config (at + 1) js cs
AllSoundBooks config at _ _ = ⊥

-- Partition by partition, in their order from this one on: all calls that the history has of a tenant at a partition are in the
-- journal that is left there of this tenant, or in its earlier epochs.
abbrev pub AllTraced : List HistoryEntry → ℕ → List (Vec Journal) → Type 0
AllTraced seen at [] = Unit {0}
AllTraced seen at (j ∷ js) = AreTraced seen at (map account_of j.items) × AllTraced seen (at + 1) js

-- these are numbers of calls of so many partitions, and the history that was seen has as many calls of each, or more
pub record AreSeen (parts : ℕ) (seen : List HistoryEntry) (calls : List ℕ) : Type 0 where
  pub of_parts : length calls ≡ parts
  pub each : (partition : ℕ) → get_or calls partition 0 ≤ count (partition + 1) seen

-- what a hub of this config leaves, with the transcripts that it was given, whether it kept journals or not
pub record IsLeftBy (hub : ConfigView) (given : List Transcript) (closed : Closed) : Type 0 where
  pub config : config_view closed.config ≡ record hub { journals = true }
  pub transcripts : closed.transcripts.items ≡ given
  pub parts : length closed.journals.items ≡ hub.parts
  pub books : AllSoundBooks hub 0 closed.journals.items closed.counts.items
