use Rattle.hub.proofs.Atomic.{lists_atomic}
use Rattle.hub.proofs.read_laws.seat_lists_are_atomic.Goals as goal

pub returns : goal.returns
returns c sight setup tag start entries told legal from = lists_atomic sight setup tag start entries told legal from
