use Rattle.plain_store.proofs.LawRuns.{told}
use Rattle.plain_store.proofs.laws.reads_rest_on_replies.Goals as goal

pub returns : goal.returns
returns c = told
