use Rattle.history.proofs.Clock.{sees_told}
use Rattle.history.proofs.history_laws.clocks_are_seen.Goals as goal

pub returns : goal.returns
returns c log = sees_told log
