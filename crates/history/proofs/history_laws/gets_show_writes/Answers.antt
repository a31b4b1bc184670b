use Rattle.history.proofs.Shown.{shows_writes}
use Rattle.history.proofs.history_laws.gets_show_writes.Goals as goal

pub returns : goal.returns
returns c log legal = shows_writes log legal
