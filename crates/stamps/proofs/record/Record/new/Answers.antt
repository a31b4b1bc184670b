use Rattle.std.proofs.Common.{rules}
use Rattle.stamps.proofs.record.Record.new.Goals as goal

pub returns-then-eq-clause-exact : goal.returns-then-eq-clause-exact
returns-then-eq-clause-exact c = search rules
