use Rattle.std.proofs.Common.{refl, inr}
use Rattle.plain_store.specs.declared.answer.Answer.TheVariants.{Refused}
use Rattle.plain_store.specs.declared.refusal.Refusal.TheVariants.{BadLine}
use Rattle.line_protocol.specs.AnswerSpelling.{answer_line}
use Rattle.server_sessions.proofs.line_session.put_last.Goals as goal

pub returns-in-Unread-clause-told : goal.returns-in-Unread-clause-told
returns-in-Unread-clause-told c = (answer_line (Refused BadLine), inr (inr (BadLine, refl)), c.put_refusal.ensures)
