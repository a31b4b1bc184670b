use Rattle.std.proofs.Common.{◌≤◌, ◌+◌, arith}
use Rattle.history.specs.Entries.{count}
use Rattle.history.proofs.Lists.{prefix_join, prefix_of_itself}
use Rattle.hub.proofs.Counted.{at_most, none_seen, seen_more}
use Rattle.hub.proofs.closing.look_at_calls.Goals as goal

pub loop-partition-init : goal.loop-partition-init
loop-partition-init g c = record {
  calls = none_seen c.args.seen.now c.args.calls.now.items (omega arith);
  len = omega arith;
  room = omega arith;
  seen = prefix_of_itself c.args.seen.now;
}

pub loop-partition-preserved : goal.loop-partition-preserved
loop-partition-preserved g c =
    let so_far = c.loop-partition.invariant in
    let now = c.look_at_calls-its.new.seen in
    let its : c.look_at_calls-its.result ≤ count (c.loop-partition.partition + 1) now = at_most c.look_at_calls-its.result (count (c.loop-partition.partition + 1) now) c.look_at_calls-its.ensures.calls in
    record {
      calls = seen_more c.loop-partition.partition c.loop-partition.seen now c.loop-partition.calls.items c.push_reserved.new.self.items c.look_at_calls-its.result
          c.look_at_calls-its.ensures.seen c.push_reserved.ensures.items so_far.calls its;
      len = omega arith;
      room = omega arith;
      seen = prefix_join c.args.seen.now c.loop-partition.seen now so_far.seen c.look_at_calls-its.ensures.seen;
    }
