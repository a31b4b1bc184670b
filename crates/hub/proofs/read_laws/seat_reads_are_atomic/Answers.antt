use Rattle.hub.proofs.Atomic.{reads_atomic}
use Rattle.hub.proofs.read_laws.seat_reads_are_atomic.Goals as goal

pub returns : goal.returns
returns c sight keys start entries told legal from = reads_atomic sight keys start entries told legal from
