use Rattle.std.proofs.Common.{ap, sym, ◌∙◌, slice_get, subst}
use Rattle.settle.specs.Standing.{IsCompared, rest_of}
use Rattle.settle.proofs.Stages.{no_reply_first}
use Rattle.settle.proofs.steps_taken.reply_next.Goals as goal

pub returns-in-Open : goal.returns-in-Open
returns-in-Open c item compared at =
    c.reply_at.ensures item (subst (IsCompared c.args.transcript.now) c.in-Open.is compared) (ap (λ s. slice_get (rest_of c.args.transcript.now s) 0) (sym c.in-Open.is) ∙ at)

pub returns-in-Waiting : goal.returns-in-Waiting
returns-in-Waiting c item compared at = no_reply_first c.args.transcript.now c.args.stage item c.in-Waiting.is at
