use Rattle.line_protocol.proofs.StepLineLaws.{put_lists}
use Rattle.line_protocol.proofs.step_line.read_put.Goals as goal

pub returns-in-Err : goal.returns-in-Err
returns-in-Err c =
    let list = rw c.in-Err.is at c.in_ok-items.ensures in
    put_lists c.args.words.now c.next_part.result.0.now _ c.in_ok-client.client list.0 list.1 c.next_part.ensures c.in_ok-client.ensures list.2
