use Rattle.std.proofs.Common.{rules}
use Rattle.stamps.proofs.stamp.StampOrd.cmp.Goals as goal

pub returns-clause-as_numbers : goal.returns-clause-as_numbers
returns-clause-as_numbers c = search rules
