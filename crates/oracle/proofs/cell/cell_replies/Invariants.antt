use Rattle.std.proofs.Common.{◌≡◌, take, reverse}
use Rattle.plain_store.specs.Replies.{log_of}
use Rattle.oracle.proofs.cell.cell_replies.Given as goal

abbrev pub invariant-loop-call : goal.invariant-loop-call
invariant-loop-call l = l.log.items ≡ log_of (record { slots = l.slots; items = l.items; clients = l.clients }) (reverse (take l.call-index l.calls))
