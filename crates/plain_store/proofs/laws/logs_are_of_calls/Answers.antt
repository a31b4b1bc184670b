use Rattle.plain_store.proofs.LawRuns.{logs}
use Rattle.plain_store.proofs.laws.logs_are_of_calls.Goals as goal

pub returns : goal.returns
returns c = logs
