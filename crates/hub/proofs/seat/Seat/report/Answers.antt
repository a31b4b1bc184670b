use Rattle.std.proofs.Common.{◌∙◌, ◌+◌, ap, subst}
use Rattle.std.proofs.Math.Logic.{∥∥₁_map}
use Rattle.history.specs.Legal.{IsLegal}
use Rattle.history.proofs.Following.{has_parts_later}
use Rattle.hub.specs.Seats.{SeatView}
use Rattle.hub.proofs.seat.Seat.report.Goals as goal

-- what it sees is of the same store, and as many replies are still to come
pub invariant_of-self-inside : goal.invariant_of-self-inside
invariant_of-self-inside g c =
    let before = c.self.inside in (
      λ going. ap (λ q. q.served + q.queued) c.report.ensures.more.dispatcher ∙ before.answered going,
      (∥∥₁_map before.of_store (has_parts_later before.operation.seen c.report.new.self.seen before.hub.now.parts c.report.ensures.more.seen), tt),
    )

-- what it had seen is a legal history
pub returns-clause-legal : goal.returns-clause-legal
returns-clause-legal g c =
    let P : SeatView → Type 0 = λ s. ∥ IsLegal s.seen ∥₁ in
    subst P c.self.view_is c.self.inside.operation.legal
