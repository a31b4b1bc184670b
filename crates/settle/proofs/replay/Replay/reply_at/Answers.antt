use Rattle.std.proofs.Common.{sym, ap, ◌∙◌}
use Rattle.std.specs.Option.{option_copied}
use Rattle.settle.specs.Fronts.{reply_in}
use Rattle.settle.proofs.replay.Replay.reply_at.Goals as goal

pub returns-in-Some : goal.returns-in-Some
returns-in-Some c input acts history plays = ap reply_in (sym (ap option_copied c.in-Some.is) ∙ c.message.ensures input acts history plays)

pub returns-in-None : goal.returns-in-None
returns-in-None c input acts history plays = ap reply_in (sym (ap option_copied c.in-None.is) ∙ c.message.ensures input acts history plays)
