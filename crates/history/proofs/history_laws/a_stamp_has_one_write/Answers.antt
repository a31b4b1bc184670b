use Rattle.history.proofs.Following.{one_write}
use Rattle.history.proofs.history_laws.a_stamp_has_one_write.Goals as goal

pub returns : goal.returns
returns c log legal = one_write log legal
