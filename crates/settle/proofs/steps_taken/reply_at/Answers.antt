use Rattle.std.proofs.Common.{Some, None, sym, ◌∙◌}
use Rattle.settle.proofs.Stages.{reply_there}
use Rattle.settle.proofs.steps_taken.reply_at.Goals as goal

pub returns-in-Some : goal.returns-in-Some
returns-in-Some c item none at = reply_there c.args.entries.now.items c.args.read item (Some c.in-Some.taken) (sym c.in-Some.is ∙ c.taken.ensures) none at

pub returns-in-None : goal.returns-in-None
returns-in-None c item none at = reply_there c.args.entries.now.items c.args.read item None (sym c.in-None.is ∙ c.taken.ensures) none at
