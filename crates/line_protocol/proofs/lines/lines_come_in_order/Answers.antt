use Rattle.line_protocol.proofs.TransferLaws.{turns_in_order}
use Rattle.line_protocol.proofs.lines.lines_come_in_order.Goals as goal

pub returns : goal.returns
returns c = turns_in_order
