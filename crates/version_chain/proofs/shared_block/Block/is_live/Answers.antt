use Rattle.version_chain.proofs.StoredNodes.{live_stored}
use Rattle.version_chain.proofs.shared_block.Block.is_live.Goals as goal

pub returns : goal.returns
returns c = rw (← c.self.view_is, live_stored c.self.inside.heads c.self.inside.bodies c.args.slot) c.is_live.ensures
