use Rattle.history.proofs.Counts.{mark_later}
use Rattle.hub.proofs.operation.RunningOperation.learn.Goals as goal

-- what it sees is a legal history, and has the mark
pub invariant_of-self-clause-legal : goal.invariant_of-self-clause-legal
invariant_of-self-clause-legal g c = ∣ c.learn.ensures.legal ∣₁

pub invariant_of-self-clause-marked : goal.invariant_of-self-clause-marked
invariant_of-self-clause-marked g c =
    let before = c.args.self.now in
    mark_later before.seen c.learn.new.self before.mark c.learn.ensures.this before.marked
