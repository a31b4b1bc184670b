use Rattle.plain_store.proofs.LawRuns.{newest}
use Rattle.plain_store.proofs.laws.puts_are_newest.Goals as goal

pub returns : goal.returns
returns c = newest
