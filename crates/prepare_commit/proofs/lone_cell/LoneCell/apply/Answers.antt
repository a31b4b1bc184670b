use Rattle.version_chain.proofs.Changing.{share_kept}
use Rattle.prepare_commit.proofs.lone_cell.LoneCell.apply.Goals as goal

pub apply-requires : goal.apply-requires
apply-requires c = record { lies = c.self.invariant.0; share = c.self.invariant.1 }

pub invariant_of-self : goal.invariant_of-self
invariant_of-self c = (c.apply.ensures.lies, share_kept _ _ _ _ c.apply.ensures.own c.self.invariant.1)

pub returns : goal.returns
returns c = rw (← c.self.view_is) c.apply.ensures.serves
