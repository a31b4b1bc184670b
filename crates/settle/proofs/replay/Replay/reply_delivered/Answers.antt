use Rattle.std.proofs.Common.{◌≡◌, sym, ap, ◌∙◌, subst}
use Rattle.settle.specs.Losing.{StillHas}
use Rattle.settle.specs.Fronts.{reply_in, reply_delivered}
use Rattle.settle.proofs.replay.Replay.reply_delivered.Goals as goal

pub returns-in-Deliver : goal.returns-in-Deliver
returns-in-Deliver c input acts history plays =
    subst (λ act. StillHas plays.own history act → c.reply_at.result ≡ reply_delivered history act) (sym c.in-Deliver.is)
    (λ has. c.reply_at.ensures input acts history plays ∙ ap reply_in has)
