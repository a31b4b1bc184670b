use Rattle.std.proofs.Common.{rules}
use Rattle.stamps.proofs.stamp.Stamp.next.Goals as goal

pub returns-clause-value : goal.returns-clause-value
returns-clause-value c = search rules
