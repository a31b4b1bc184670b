use Rattle.std.proofs.Common.{refl}
use Rattle.settle.specs.Input.{input_of}
use Rattle.settle.proofs.progress.Progress.take_of_journal.Goals as goal

pub returns-in_default : goal.returns-in_default
returns-in_default c = record {
  takes = λ trace stands may agrees. c.in_default.ensures trace stands.noted.replies may.0 may.1;
  sized = c.requires.sized;
  settings = record { limits = refl; loses = refl };
}

pub returns : goal.returns
returns c = record {
  takes = λ trace stands may.
      c.take_of_event.ensures.takes (input_of c.args.closed.now c.args.tenant c.args.self.now.replay.limits) trace refl (c.in-Some.ensures trace stands.noted.replies) stands may;
  sized = c.take_of_event.ensures.keeps.sized c.args.closed.now c.requires.sized;
  settings = c.take_of_event.ensures.keeps.settings;
}
