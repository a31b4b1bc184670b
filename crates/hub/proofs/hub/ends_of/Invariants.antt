use Rattle.std.proofs.Common.{◌≡◌, ◌≤◌, take, vec_len, vec_capacity}
use Rattle.std.specs.Prelude.{map}
use Rattle.shard.specs.Queues.{unsent}
use Rattle.hub.proofs.hub.ends_of.Given as goal

-- there is an end of each queue so far, and room for the others
abbrev pub invariant-loop-at : goal.invariant-loop-at
invariant-loop-at g l = record {
  len : vec_len l.ends ≡ l.at;
  room : vec_len l.fn.queues ≤ vec_capacity l.ends;
  ends : l.ends.items ≡ map unsent (take l.at l.fn.queues.items);
  kept : l.queues.items ≡ l.fn.queues.items;
}
