use Rattle.std.proofs.Common.{length, ap}
use Rattle.closed_store.proofs.Filled.{nothing_put}
use Rattle.closed_store.proofs.join.filling.put_first.Goals as goal

pub returns-then-is_empty : goal.returns-then-is_empty
returns-then-is_empty c = nothing_put c.args.list.items c.args.transcript.now (ap length (c.is_empty.ensures.0 c.if-is_empty.true))
