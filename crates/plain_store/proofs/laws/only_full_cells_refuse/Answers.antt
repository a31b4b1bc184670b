use Rattle.plain_store.proofs.LawRuns.{full}
use Rattle.plain_store.proofs.laws.only_full_cells_refuse.Goals as goal

pub returns : goal.returns
returns c = full
