use Rattle.std.proofs.Common.{sym, ap, subst}
use Rattle.version_arena.specs.Arena.{IsLive}
use Rattle.version_chain.specs.Chain.{Cells}
use Rattle.version_chain.specs.Node.{Node}
use Rattle.version_chain.proofs.StoredNodes.{live_head, node_shown}
use Rattle.version_chain.proofs.stored.StoredNode.is_committed.Goals as goal

pub get-requires : goal.get-requires
get-requires c = live_head c.block.inside.heads c.block.inside.bodies c.self.inside.slot (subst (λ (b : Cells). IsLive b c.self.inside.slot) (sym c.block.view_is) c.self.invariant)

pub returns : goal.returns
returns c = ap (λ (n : Node). n.version.committed) (node_shown c.block.inside.heads c.block.inside.bodies c.self.inside.slot c.get.result.now _ c.get.ensures c.block.invariant.0 c.self.inside.block.now c.block.view_is c.args.self.now c.self.view_is)
