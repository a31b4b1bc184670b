use Rattle.hub.proofs.Deciding.{seat_refused}
use Rattle.hub.proofs.hub.Hub.seat.Goals as goal

-- each refusal has its cause
pub returns-clause-refusals : goal.returns-clause-refusals
returns-clause-refusals g c =
    seat_refused c.args.self.now.limits c.args.tenant c.args.client c.args.base c.seat_with_check-opened.result.1 c.seat_with_check-opened.result.0
    c.seat_with_check-opened.ensures.no_tenant c.seat_with_check-opened.ensures.decided
