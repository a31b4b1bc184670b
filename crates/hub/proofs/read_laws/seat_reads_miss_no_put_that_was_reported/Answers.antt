use Rattle.hub.proofs.Reported.{reported_not_missed}
use Rattle.hub.proofs.read_laws.seat_reads_miss_no_put_that_was_reported.Goals as goal

pub returns : goal.returns
returns c log put old seen name items own place number told legal puts reads was fresh low = reported_not_missed log put old seen name items own place number told legal puts reads was fresh low
