use Rattle.hub.proofs.Ended.{lists_restart}
use Rattle.hub.proofs.read_laws.seat_lists_restart_below_a_floor.Goals as goal

pub returns : goal.returns
returns c sight setup tag start entries key floor from = lists_restart sight setup tag start entries key floor from
