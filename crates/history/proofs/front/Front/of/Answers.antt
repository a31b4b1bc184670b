use Rattle.history.proofs.Following.{opening_legal}
use Rattle.history.proofs.front.Front.of.Goals as goal

pub invariant_of-result : goal.invariant_of-result
invariant_of-result g c = (c.requires.book, opening_legal c.args.seen.log c.requires.opening)
