use Rattle.line_protocol.proofs.ServeLaws.{get_carries}
use Rattle.line_protocol.proofs.serve_line.read_get.Goals as goal

pub returns-in-Err : goal.returns-in-Err
returns-in-Err c = let list = rw c.in-Err.is at c.in_ok-keys.ensures in get_carries _ list.0 list.1 list.2
