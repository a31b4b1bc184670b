use Rattle.version_chain.proofs.Changing.{share_kept}
use Rattle.prepare_commit.proofs.lone_cell.LoneCell.discard_counted.Goals as goal

pub discard_counted-requires-clause-lies : goal.discard_counted-requires-clause-lies
discard_counted-requires-clause-lies c = c.self.invariant.0

pub invariant_of-self : goal.invariant_of-self
invariant_of-self c = (c.discard_counted.ensures.served.lies, share_kept _ _ _ _ c.discard_counted.ensures.served.own c.self.invariant.1)

pub returns-clause-serves : goal.returns-clause-serves
returns-clause-serves c = rw (← c.self.view_is) c.discard_counted.ensures.served.serves

pub returns-clause-visits : goal.returns-clause-visits
returns-clause-visits c written marked = rw (← c.self.view_is) (c.discard_counted.ensures.visits written marked)
