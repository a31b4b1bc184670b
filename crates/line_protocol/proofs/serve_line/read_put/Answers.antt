use Rattle.line_protocol.proofs.ServeLaws.{put_carries}
use Rattle.line_protocol.proofs.serve_line.read_put.Goals as goal

pub returns-in-Err : goal.returns-in-Err
returns-in-Err c = let list = rw c.in-Err.is at c.in_ok-items.ensures in put_carries _ list.0 list.1 list.2
