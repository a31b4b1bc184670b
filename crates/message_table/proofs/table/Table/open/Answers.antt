use Rattle.message_table.proofs.Sending.{none_stand}
use Rattle.message_table.proofs.table.Table.open.Goals as goal

pub returns-clause-stands : goal.returns-clause-stands
returns-clause-stands c = rw c.new.ensures.empty none_stand
