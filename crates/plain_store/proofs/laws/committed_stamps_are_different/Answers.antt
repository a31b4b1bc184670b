use Rattle.plain_store.proofs.Different.{committed_different}
use Rattle.plain_store.proofs.laws.committed_stamps_are_different.Goals as goal

pub returns : goal.returns
returns c = committed_different
