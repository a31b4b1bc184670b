use Rattle.std.proofs.Common.{◌≡◌, ◌≤◌, vec_len, vec_capacity}
use mathlib.Core.List.{IsPrefix}
use Rattle.hub.specs.Hubs.{AreSeen}
use Rattle.hub.proofs.closing.look_at_calls.Given as goal

-- those of the partitions so far were seen, and there is room for the others
abbrev pub invariant-loop-partition : goal.invariant-loop-partition
invariant-loop-partition g l = record {
  calls : AreSeen l.partition l.seen l.calls.items;
  len : vec_len l.calls ≡ l.partition;
  room : l.parts ≤ vec_capacity l.calls;
  seen : IsPrefix l.fn.seen l.seen;
}
