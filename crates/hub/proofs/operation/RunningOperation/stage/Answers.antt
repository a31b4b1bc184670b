use Rattle.std.proofs.Common.{refl, arith}
use Rattle.hub.proofs.Behind.{next-same}
use Rattle.hub.proofs.operation.RunningOperation.stage.Goals as goal

pub returns-clause-staged : goal.returns-clause-staged
returns-clause-staged g c = next-same _ _ _ _ _ _ _ _ _ _ _ refl refl (omega arith) refl refl c.stage.ensures.staged
