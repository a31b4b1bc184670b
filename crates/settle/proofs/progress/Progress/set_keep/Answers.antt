use Rattle.settle.proofs.Words.{on_ok_always}
use Rattle.settle.proofs.progress.Progress.set_keep.Goals as goal

pub returns-clause-played : goal.returns-clause-played
returns-clause-played c = record {
  ok = on_ok_always c.push_step.result (λ input acts history plays. (c.in_ok-step_into.ensures.stands input acts history plays tt).plays);
  err = c.push_step.ensures.err;
}
