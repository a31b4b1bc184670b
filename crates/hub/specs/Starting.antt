-- The lists of a hub in which something stands for each partition, as its workers are started.
use Rattle.std.specs.Prelude.{◌≡◌, ◌≤◌, ◌+◌, ℕ, Bool, [], All, length, map, vec_capacity, vec_len}
use Rattle.history.specs.declared.rule.Naming.{Ghosts}
use Rattle.closed_store.specs.declared.config.Config.{Config}
use Rattle.hub.specs.Shards.{AreShardsFrom, KeepAlike, partition_of}
use Rattle.hub.specs.declared.start.PartitionLists.{PartitionLists}

-- they are empty, and have room for so many partitions
pub record AreEmptyFor {G : Type 0} {naming : Ghosts G} (parts : ℕ) (lists : PartitionLists G naming) : Type 0 where
  pub shards : (lists.shards.items ≡ []) × (vec_len lists.shards ≡ 0) × (parts ≤ vec_capacity lists.shards)
  pub queues : (lists.queues.items ≡ []) × (vec_len lists.queues ≡ 0) × (parts ≤ vec_capacity lists.queues)
  pub threads : (vec_len lists.threads ≡ 0) × (parts ≤ vec_capacity lists.threads)
  pub calls : (vec_len lists.calls ≡ 0) × (parts ≤ vec_capacity lists.calls)
  pub journals : (vec_len lists.journals ≡ 0) × (parts ≤ vec_capacity lists.journals)
  pub counts : (vec_len lists.counts ≡ 0) × (parts ≤ vec_capacity lists.counts)

-- Each partition of a store of this config, which keeps journals or none, has its shard behind those that were there, its queue, of which nothing was taken yet, and
-- its worker, which is that of the shard in its place.
pub record AreStarted {G : Type 0} {naming : Ghosts G} (config : Config) (journals : Bool) (old new : PartitionLists G naming) : Type 0 where
  pub started : length new.shards.items ≡ length old.shards.items + config.parts
  pub shards : old.shards.items ≡ [] → AreShardsFrom config 0 new.shards.items
  pub journals_kept : old.shards.items ≡ [] → KeepAlike journals new.shards.items
  pub queues : old.queues.items ≡ [] → All (λ queue. (queue.capacity ≡ config.queue) × (queue.count ≡ 0)) new.queues.items
  pub workers : map (λ thread. thread.promise.partition) old.threads.items ≡ map partition_of old.shards.items
      → map (λ thread. thread.promise.partition) new.threads.items ≡ map partition_of new.shards.items

-- Each partition of a store of this config has its shard, and there is room for what is left of each.
pub record AreReady {G : Type 0} {naming : Ghosts G} (config : Config) (journals : Bool) (lists : PartitionLists G naming) : Type 0 where
  pub started : length lists.shards.items ≡ config.parts
  pub shards : AreShardsFrom config 0 lists.shards.items
  pub journals_kept : KeepAlike journals lists.shards.items
  pub calls : (vec_len lists.calls ≡ 0) × (config.parts ≤ vec_capacity lists.calls)
  pub left : (vec_len lists.journals ≡ 0) × (config.parts ≤ vec_capacity lists.journals)
  pub counts : (vec_len lists.counts ≡ 0) × (config.parts ≤ vec_capacity lists.counts)
