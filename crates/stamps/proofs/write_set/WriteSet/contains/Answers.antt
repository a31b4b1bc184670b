use Rattle.std.proofs.Common.{rules}
use Rattle.stamps.proofs.write_set.WriteSet.contains.Goals as goal

pub returns-clause-test : goal.returns-clause-test
returns-clause-test c = search rules
