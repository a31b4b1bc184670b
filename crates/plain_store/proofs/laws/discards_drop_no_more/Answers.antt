use Rattle.plain_store.proofs.Dropped.{drops_no_more}
use Rattle.plain_store.proofs.laws.discards_drop_no_more.Goals as goal

pub returns : goal.returns
returns c = drops_no_more
