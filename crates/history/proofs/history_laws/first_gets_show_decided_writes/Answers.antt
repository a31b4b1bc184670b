use Rattle.history.proofs.Shown.{shows_decided}
use Rattle.history.proofs.history_laws.first_gets_show_decided_writes.Goals as goal

pub returns : goal.returns
returns c log legal = shows_decided log legal
