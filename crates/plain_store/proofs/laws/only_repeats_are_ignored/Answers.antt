use Rattle.plain_store.proofs.LawRuns.{ignored_rightly}
use Rattle.plain_store.proofs.laws.only_repeats_are_ignored.Goals as goal

pub returns : goal.returns
returns c = ignored_rightly
