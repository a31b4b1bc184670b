use Rattle.std.proofs.Common.{◌≡◌, ◌≤◌, ◌+◌, [], length, vec_len, vec_capacity}
use Rattle.std.specs.Prelude.{All, map}
use Rattle.hub.specs.Shards.{AreShardsFrom, KeepAlike, partition_of}
use Rattle.hub.proofs.start.start_all.Given as goal

-- there is room for each partition that is still to start, and the shards so far are those of the first ones
abbrev pub invariant-loop-partition : goal.invariant-loop-partition
invariant-loop-partition g l = record {
  shards : vec_len l.lists.shards + l.config.parts ≤ vec_capacity l.lists.shards + l.partition;
  queues : vec_len l.lists.queues + l.config.parts ≤ vec_capacity l.lists.queues + l.partition;
  started : length l.lists.shards.items ≡ length l.fn.lists.shards.items + l.partition;
  threads : vec_len l.lists.threads + l.config.parts ≤ vec_capacity l.lists.threads + l.partition;
  calls : l.lists.calls ≡ l.fn.lists.calls;
  journals : l.lists.journals ≡ l.fn.lists.journals;
  counts : l.lists.counts ≡ l.fn.lists.counts;
  of_room : l.fn.lists.queues.items ≡ [] → All (λ queue. (queue.capacity ≡ l.config.queue) × (queue.count ≡ 0)) l.lists.queues.items;
  kept_alike : l.fn.lists.shards.items ≡ [] → KeepAlike l.journals l.lists.shards.items;
  of_config : l.fn.lists.shards.items ≡ [] → AreShardsFrom l.config 0 l.lists.shards.items;
  workers : map (λ thread. thread.promise.partition) l.fn.lists.threads.items ≡ map partition_of l.fn.lists.shards.items
      → map (λ thread. thread.promise.partition) l.lists.threads.items ≡ map partition_of l.lists.shards.items;
  words : l.words.next ≡ l.partition;
}
