use Rattle.std.proofs.Common.{rules}
use Rattle.stamps.specs.Record.{record_eq}
use Rattle.stamps.proofs.record.Record.has_content_of.Goals as goal

pub returns-then-eq-4 : goal.returns-then-eq-4
unfolding record_eq
returns-then-eq-4 c = search rules
