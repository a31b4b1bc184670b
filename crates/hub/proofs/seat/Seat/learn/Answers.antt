use Rattle.std.proofs.Common.{◌∙◌, ◌+◌, ap}
use Rattle.std.proofs.Math.Logic.{∥∥₁_map}
use Rattle.history.proofs.Following.{has_parts_later}
use Rattle.hub.proofs.seat.Seat.learn.Goals as goal

-- what it sees is of the same store, and as many replies are still to come
pub invariant_of-self-inside : goal.invariant_of-self-inside
invariant_of-self-inside g c =
    let before = c.self.inside in (
      λ going. ap (λ q. q.served + q.queued) c.learn.ensures.more.dispatcher ∙ before.answered going,
      (∥∥₁_map before.of_store (has_parts_later before.operation.seen c.learn.new.self.seen before.hub.now.parts c.learn.ensures.more.seen), tt),
    )
