use Rattle.hub.proofs.Done.{puts_committed}
use Rattle.hub.proofs.read_laws.seat_puts_are_committed.Goals as goal

pub returns : goal.returns
returns c sight setup items own start entries legal parts from = puts_committed sight setup items own start entries legal parts from
