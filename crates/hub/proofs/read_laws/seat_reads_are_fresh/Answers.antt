use Rattle.hub.proofs.Fresh.{reads_fresh}
use Rattle.hub.proofs.read_laws.seat_reads_are_fresh.Goals as goal

pub returns : goal.returns
returns c sight before keys start entries told legal since from = reads_fresh sight before keys start entries told legal since from
