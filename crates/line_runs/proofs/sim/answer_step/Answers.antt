use Rattle.line_runs.proofs.sim.answer_step.Goals as goal

pub returns-in-Ok-clause-ok : goal.returns-in-Ok-clause-ok
returns-in-Ok-clause-ok c = record {
  answer = c.step_into.new.answer;
  written = c.put_answer.ensures.text;
  answered = c.in-Ok.ensures.answer;
  history = c.in-Ok.ensures.stands;
  parts = c.step_into.ensures.parts;
  limits = c.step_into.ensures.limits;
}

pub returns-in-Err-clause-stays : goal.returns-in-Err-clause-stays
returns-in-Err-clause-stays c = record {
  history = c.in-Err.ensures.unchanged;
  parts = c.step_into.ensures.parts;
  limits = c.step_into.ensures.limits;
}
