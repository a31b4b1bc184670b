use Rattle.std.proofs.Common.{sym, subst}
use Rattle.settle.specs.Standing.{TakesStep, origin_of}
use Rattle.settle.specs.declared.next_step.Source.{Source}
use Rattle.settle.proofs.progress.Progress.take.Goals as goal

pub returns-in-Transcript : goal.returns-in-Transcript
returns-in-Transcript c =
    subst (λ (source : Source). TakesStep c.args.closed.now c.args.tenant (origin_of source) c.args.next.act c.args.self.now c.take_of_transcript.new.self c.take_of_transcript.result)
    (sym c.in-Transcript.is) c.take_of_transcript.ensures

pub returns-in-Journal : goal.returns-in-Journal
returns-in-Journal c =
    subst (λ (source : Source). TakesStep c.args.closed.now c.args.tenant (origin_of source) c.args.next.act c.args.self.now c.take_of_journal.new.self c.take_of_journal.result)
    (sym c.in-Journal.is) c.take_of_journal.ensures
