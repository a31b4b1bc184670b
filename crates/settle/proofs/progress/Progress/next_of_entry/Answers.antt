use Rattle.std.proofs.Common.{ap, sym, ◌∙◌, subst}
use Rattle.settle.specs.Input.{input_of}
use Rattle.settle.specs.Program.{Begins, Takes, doing_of}
use Rattle.settle.specs.Standing.{GivesNow}
use Rattle.settle.proofs.Words.{some_is}
use Rattle.settle.proofs.progress.Progress.next_of_entry.Goals as goal

pub returns-in-Began-clause-gives : goal.returns-in-Began-clause-gives
returns-in-Began-clause-gives c trace doing noted does =
    let input = input_of c.args.closed.now c.args.tenant c.args.self.now.replay.limits in
    subst (λ d. GivesNow input trace c.args.place c.args.transcript.now d c.request.result) (some_is (Begins c.in-Began.act) doing (sym (ap doing_of c.in-Began.is) ∙ does)) (c.request.ensures.gives input trace)

pub returns-in-Took-clause-gives : goal.returns-in-Took-clause-gives
returns-in-Took-clause-gives c trace doing noted does =
    let input = input_of c.args.closed.now c.args.tenant c.args.self.now.replay.limits in
    let taken = Takes c.in-Took.number c.in-Took.partition c.in-Took.event_place c.in-Took.reply in
    subst (λ d. GivesNow input trace c.args.place c.args.transcript.now d c.delivery.result) (some_is taken doing (sym (ap doing_of c.in-Took.is) ∙ does))
    (c.delivery.ensures.gives input trace c.args.transcript.now c.in-Took.number c.in-Took.partition c.in-Took.event_place c.in-Took.reply (c.reply_row-row.ensures trace noted))
