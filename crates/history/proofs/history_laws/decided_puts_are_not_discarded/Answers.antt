use Rattle.history.proofs.Committing.{keeps_decided}
use Rattle.history.proofs.history_laws.decided_puts_are_not_discarded.Goals as goal

pub returns : goal.returns
returns c log legal = keeps_decided log legal
