use Rattle.version_chain.proofs.Changing.{share_kept}
use Rattle.prepare_commit.proofs.lone_cell.LoneCell.commit_counted.Goals as goal

pub commit_counted-requires-clause-lies : goal.commit_counted-requires-clause-lies
commit_counted-requires-clause-lies c = c.self.invariant.0

pub invariant_of-self : goal.invariant_of-self
invariant_of-self c = (c.commit_counted.ensures.served.lies, share_kept _ _ _ _ c.commit_counted.ensures.served.own c.self.invariant.1)

pub returns-clause-serves : goal.returns-clause-serves
returns-clause-serves c = rw (← c.self.view_is) c.commit_counted.ensures.served.serves
