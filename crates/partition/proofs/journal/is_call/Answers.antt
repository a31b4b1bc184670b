use Rattle.partition.proofs.Paired.{same_prepare}
use Rattle.partition.proofs.journal.is_call.Goals as goal

pub returns-in-Prepare-Prepare : goal.returns-in-Prepare-Prepare
returns-in-Prepare-Prepare c = rw (c.in-Prepare-Prepare.is-0, c.in-Prepare-Prepare.is-1) (same_prepare c.eq.result c.in-Prepare-Prepare.version c.in-Prepare-Prepare.other c.eq.ensures)
