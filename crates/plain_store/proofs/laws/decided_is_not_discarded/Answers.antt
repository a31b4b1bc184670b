use Rattle.plain_store.proofs.Runs.{not_decided}
use Rattle.plain_store.proofs.laws.decided_is_not_discarded.Goals as goal

pub returns : goal.returns
returns c = not_decided
