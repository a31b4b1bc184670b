use Rattle.std.proofs.Common.{rules}
use Rattle.stamps.proofs.visits.Visits.tick.Goals as goal

pub returns : goal.returns
returns c = search rules
