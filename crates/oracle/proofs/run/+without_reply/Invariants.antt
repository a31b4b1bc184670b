use Rattle.std.proofs.Common.{length}
use Rattle.oracle.proofs.run.+without_reply.Given as goal

abbrev pub decreases-without_reply : goal.decreases-without_reply
decreases-without_reply l = length l.calls.now
