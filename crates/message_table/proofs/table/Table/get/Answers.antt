use Rattle.std.proofs.Common.{sym, ◌∙◌}
use Rattle.message_table.proofs.Sending.{row_is, message_at-in}
use Rattle.message_table.proofs.table.Table.get.Goals as goal

pub returns-clause-value : goal.returns-clause-value
returns-clause-value c = c.get.ensures.value ∙ sym (row_is c.args.self.now c.self.inside.sent c.self.inside.reserved c.self.inside.rows c.self.invariant.0 c.self.view_is c.args.row)

pub returns-clause-sent : goal.returns-clause-sent
returns-clause-sent c messages lost stands = returns-clause-value c ∙ stands.live c.args.row

pub returns-clause-in_history : goal.returns-clause-in_history
returns-clause-in_history c history stands = returns-clause-value c ∙ stands.live c.args.row ∙ message_at-in history c.args.row
