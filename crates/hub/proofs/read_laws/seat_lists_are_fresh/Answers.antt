use Rattle.hub.proofs.Fresh.{lists_fresh}
use Rattle.hub.proofs.read_laws.seat_lists_are_fresh.Goals as goal

pub returns : goal.returns
returns c sight before setup tag start entries told legal since from = lists_fresh sight before setup tag start entries told legal since from
