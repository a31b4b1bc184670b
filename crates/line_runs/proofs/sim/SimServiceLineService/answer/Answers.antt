use Rattle.std.proofs.lemmas.Result.{on_err_weaker, on_ok_weaker}
use Rattle.plain_store.specs.Numbers.{number_of}
use Rattle.line_protocol.specs.Stream.{terminated}
use Rattle.line_protocol.specs.Spelling.{refused_text}
use Rattle.line_protocol.specs.AnswerSpelling.{answer_line}
use Rattle.line_runs.proofs.SimSteps.{both_on_ok, keeps_answering, takes_step, refuses}
use Rattle.line_runs.proofs.sim.SimServiceLineService.answer.Goals as goal

pub returns-in-Ok-clause-ok : goal.returns-in-Ok-clause-ok
returns-in-Ok-clause-ok c =
    on_ok_weaker c.answer_step.result
    (λ told. (
      answer_line told.answer,
      told.written,
      takes_step c.args.self.now.world c.answer_step.new.world c.args.self.now.names.now c.args.line.now c.in-Ok.step c.args.out.now.items c.answer_step.new.out.items c.in-Ok.ensures.found told,
    ))
    c.answer_step.ensures.ok

pub returns-in-Err-clause-ok : goal.returns-in-Err-clause-ok
returns-in-Err-clause-ok c =
    both_on_ok c.answer_refusal.result c.answer_refusal.ensures.ok c.answer_refusal.ensures.memory
    (λ written some. (
      terminated (refused_text (number_of c.in-Err.refusal)),
      written,
      refuses c.args.self.now.world c.args.self.now.names.now c.args.line.now c.in-Err.refusal c.in-Err.ensures.error some,
    ))

pub returns-in-Ok-clause-stays : goal.returns-in-Ok-clause-stays
returns-in-Ok-clause-stays c =
    on_err_weaker c.answer_step.result (keeps_answering c.args.self.now.world c.answer_step.new.world c.args.self.now.names.now) c.answer_step.ensures.stays
