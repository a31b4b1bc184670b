use Rattle.std.proofs.Common.{suc, refl, arith}
use Rattle.shard.proofs.jobs.JobReceiver.take.Goals as goal

-- the task at the front is at home as all are, and so are those behind it
pub recv_as-requires-clause-rule : goal.recv_as-requires-clause-rule
recv_as-requires-clause-rule g c = ((λ x items views h at. (_, (λ k d lt. h (suc k) d (omega arith)), (refl, h 0 x (omega arith)))), λ items views h at. tt)
