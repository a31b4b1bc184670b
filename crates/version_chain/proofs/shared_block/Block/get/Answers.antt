use Rattle.version_chain.proofs.StoredNodes.{stored_there}
use Rattle.version_chain.proofs.shared_block.Block.get.Goals as goal

pub returns : goal.returns
returns c = rw c.of.ensures (stored_there c.args.self.now c.args.slot c.requires)
