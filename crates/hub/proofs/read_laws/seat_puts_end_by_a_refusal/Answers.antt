use Rattle.hub.proofs.Ended.{puts_end}
use Rattle.hub.proofs.read_laws.seat_puts_end_by_a_refusal.Goals as goal

pub returns : goal.returns
returns c sight setup own items start entries refusal from = puts_end sight setup own items start entries refusal from
