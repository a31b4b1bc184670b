use Rattle.plain_store.proofs.LawRuns.{answered}
use Rattle.plain_store.proofs.laws.partitions_answer_by_logs.Goals as goal

pub returns : goal.returns
returns c = answered
