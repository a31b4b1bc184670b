use Rattle.std.proofs.Common.{◌≡◌}
use Rattle.shard.proofs.worker.send_reply.Given as goal

-- what is left to be sent is the reply
abbrev pub invariant-loop : goal.invariant-loop
invariant-loop g l = (goal.iterator-loop g).can_next l.iterator' × (goal.iterator-loop g).is_finite l.iterator' × (l.left ≡ l.fn.reply)
