use Rattle.std.proofs.Common.{length, arith}
use Rattle.settle.specs.Input.{input_of}
use Rattle.settle.proofs.Words.{if_ok_map}
use Rattle.settle.proofs.Choices.{choice_around}
use Rattle.settle.proofs.progress.Progress.next_of_transcripts.Goals as goal

pub returns-in-None : goal.returns-in-None
returns-in-None c =
    if_ok_map c.next_between-in-None.result _ _
    (λ next chosen. record {
      choice = λ trace stands.
          choice_around (input_of c.args.closed.now c.args.tenant c.args.self.now.replay.limits) trace c.min-middle.result c.len-count.result (length c.args.closed.now.transcripts.items) c.in_ok-next.field-0 next
          (omega arith) c.in-None.is (c.in_ok-next.ensures.choice trace stands) (chosen.choice trace stands);
      within = chosen.within;
    })
    c.next_between-in-None.ensures
