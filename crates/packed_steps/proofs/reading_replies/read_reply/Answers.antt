use Rattle.std.proofs.Common.{ap, ◌∙◌}
use Rattle.packed_steps.specs.PackedCalls.{reply_at}
use Rattle.packed_steps.proofs.Replies.{reply_again}
use Rattle.packed_steps.proofs.reading_replies.read_reply.Goals as goal

pub returns-clause-again : goal.returns-clause-again
returns-clause-again c = λ reply rest h e. c.reply_at.ensures ∙ ap reply_at e ∙ reply_again reply rest h
