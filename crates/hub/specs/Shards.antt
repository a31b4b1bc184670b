-- The shards of a hub's partitions.
use Rattle.std.specs.Prelude.{◌≡◌, ℕ, ◌+◌, Bool, List, [], ◌∷◌, All, vec_len}
use Rattle.std.specs.Arc.{arc_value}
use Rattle.std.specs.declared.sync.Arc.{Arc}
use Rattle.std.specs.declared.alloc.Global.{Global}
use Rattle.history.specs.declared.rule.Naming.{Ghosts}
use Rattle.closed_store.specs.declared.config.Config.{Config}
use Rattle.history.specs.declared.entry.HistoryEntry.{HistoryEntry}
use Rattle.history.specs.declared.entry.HistoryEntry.TheVariants.{Opened}
use Rattle.shard.specs.declared.shard.Shard.{Shard}
use Rattle.shard.specs.declared.shard.ShardConfig.{ShardConfig}

-- which partition a shard is that of
abbrev pub partition_of : {G : Type 0} {naming : Ghosts G} → Arc (Shard G naming) Global → ℕ
partition_of shard = (arc_value shard).config.partition

-- whether its partition keeps journals
abbrev pub journals_of : {G : Type 0} {naming : Ghosts G} → Arc (Shard G naming) Global → Bool
journals_of shard = (arc_value shard).config.journals

-- it is this partition's, in a store of this config
pub record IsConfigOf (config : Config) (at : ℕ) (its : ShardConfig) : Type 0 where
  pub partition : its.partition ≡ at
  pub parts : its.parts ≡ config.parts
  pub tenants : its.tenants ≡ vec_len config.limits
  pub every : its.every ≡ config.every
  pub epoch : its.epoch ≡ config.epoch

-- the shards of a store of this config, in the order of their partitions from this one on
abbrev pub AreShardsFrom : {G : Type 0} {naming : Ghosts G} → Config → ℕ → List (Arc (Shard G naming) Global) → Type 0
AreShardsFrom config at [] = Unit {0}
AreShardsFrom config at (shard ∷ shards) = IsConfigOf config at (arc_value shard).config × AreShardsFrom config (at + 1) shards

-- they all keep journals, or none does
abbrev pub KeepAlike : {G : Type 0} {naming : Ghosts G} → Bool → List (Arc (Shard G naming) Global) → Type 0
KeepAlike journals shards = All (λ shard. journals_of shard ≡ journals) shards

-- the history has the opening of a store of this config, and nothing behind it
abbrev pub IsOpeningOf : Config → List HistoryEntry → Type 0
IsOpeningOf config log = log ≡ Opened (record { parts = config.parts; limits = config.limits.items }) ∷ []
