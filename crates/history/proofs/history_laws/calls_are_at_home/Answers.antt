use Rattle.history.proofs.Shown.{are_at_home}
use Rattle.history.proofs.history_laws.calls_are_at_home.Goals as goal

pub returns : goal.returns
returns c log legal = are_at_home log legal
