use Rattle.settle.specs.Input.{input_of}
use Rattle.settle.proofs.Words.{if_ok_map}
use Rattle.settle.proofs.Choices.{choice_of}
use Rattle.settle.proofs.progress.Progress.next.Goals as goal

pub returns-in-None : goal.returns-in-None
returns-in-None c =
    if_ok_map c.next_of_transcripts.result _ _
    (λ next chosen. record {
      choice = λ trace stands. choice_of (input_of c.args.closed.now c.args.tenant c.args.self.now.replay.limits) trace next (c.in-None.ensures.choice trace stands) (chosen.choice trace stands);
      within = chosen.within;
    })
    c.next_of_transcripts.ensures
