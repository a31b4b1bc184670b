use Rattle.history.proofs.Following.{of_its_write}
use Rattle.history.proofs.history_laws.versions_are_of_their_writes.Goals as goal

pub returns : goal.returns
returns c log legal = of_its_write log legal
