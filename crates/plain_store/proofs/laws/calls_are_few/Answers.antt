use Rattle.plain_store.proofs.LawRuns.{few}
use Rattle.plain_store.proofs.laws.calls_are_few.Goals as goal

pub returns : goal.returns
returns c = few
