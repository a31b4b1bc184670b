use Rattle.std.proofs.Common.{◌∙◌, ap}
use Rattle.tenant_sessions.specs.Sessions.{kind_answer}
use Rattle.tenant_sessions.proofs.Started.{begin_told}
use Rattle.tenant_sessions.proofs.begin.Begin.answer_into.Goals as goal

pub returns-in-Put-clause-told : goal.returns-in-Put-clause-told
returns-in-Put-clause-told c setup history act begins rows = begin_told setup history act c.args.self.now c.args.rows begins rows ∙ ap (λ k. kind_answer k c.args.rows) c.in-Put.is

pub returns-in-Get-clause-told : goal.returns-in-Get-clause-told
returns-in-Get-clause-told c setup history act begins rows = begin_told setup history act c.args.self.now c.args.rows begins rows ∙ ap (λ k. kind_answer k c.args.rows) c.in-Get.is

pub returns-in-Find-clause-told : goal.returns-in-Find-clause-told
returns-in-Find-clause-told c setup history act begins rows = begin_told setup history act c.args.self.now c.args.rows begins rows ∙ ap (λ k. kind_answer k c.args.rows) c.in-Find.is
