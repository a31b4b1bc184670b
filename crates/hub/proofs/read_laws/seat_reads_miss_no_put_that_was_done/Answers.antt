use Rattle.hub.proofs.Done.{puts_not_missed}
use Rattle.hub.proofs.read_laws.seat_reads_miss_no_put_that_was_done.Goals as goal

pub returns : goal.returns
returns c seen before tenant items own told legal pre committed fresh = puts_not_missed seen before tenant items own told legal pre committed fresh
