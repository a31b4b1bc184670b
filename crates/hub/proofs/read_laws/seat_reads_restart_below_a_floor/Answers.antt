use Rattle.hub.proofs.Ended.{reads_restart}
use Rattle.hub.proofs.read_laws.seat_reads_restart_below_a_floor.Goals as goal

pub returns : goal.returns
returns c sight setup keys start entries key floor from = reads_restart sight setup keys start entries key floor from
