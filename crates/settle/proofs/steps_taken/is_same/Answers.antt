use Rattle.std.proofs.Common.{◌∙◌, ap, sym}
use Rattle.plain_store.proofs.EqualAnswers.{answer_eq, answer_same, answer_self}
use Rattle.settle.proofs.steps_taken.is_same.Goals as goal

pub returns : goal.returns
returns c = (
  λ test. answer_same c.args.one.now c.args.other.now (sym c.eq.ensures ∙ test),
  λ same. c.eq.ensures ∙ ap (answer_eq c.args.one.now) (sym same) ∙ answer_self c.args.one.now,
)
