use Rattle.history.proofs.Clock.{draws_rise}
use Rattle.history.proofs.history_laws.draws_rise.Goals as goal

pub returns : goal.returns
returns c log legal = draws_rise log legal
