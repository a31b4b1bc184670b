use Rattle.std.proofs.Common.{ap, ◌∙◌}
use Rattle.packed_steps.specs.PackedAnswers.{answer_at}
use Rattle.packed_steps.proofs.AnswersAgain.{answer_again}
use Rattle.packed_steps.proofs.reading_answers.read_answer.Goals as goal

pub returns-clause-again : goal.returns-clause-again
returns-clause-again c = λ answer rest h e. c.answer_at.ensures ∙ ap answer_at e ∙ answer_again answer rest h
