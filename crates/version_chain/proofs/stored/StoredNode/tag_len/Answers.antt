use Rattle.std.proofs.Common.{sym, subst, ◌∙◌}
use Rattle.version_arena.specs.Arena.{IsLive}
use Rattle.version_chain.specs.Chain.{Cells}
use Rattle.version_chain.proofs.StoredNodes.{live_head, tag_len_shown}
use Rattle.version_chain.proofs.stored.StoredNode.tag_len.Goals as goal

pub get-requires : goal.get-requires
get-requires c = live_head c.block.inside.heads c.block.inside.bodies c.self.inside.slot (subst (λ (b : Cells). IsLive b c.self.inside.slot) (sym c.block.view_is) c.self.invariant)

pub returns : goal.returns
returns c = c.from.ensures ∙ tag_len_shown c.block.inside.heads c.block.inside.bodies c.self.inside.slot c.get.result.now _ c.get.ensures c.block.invariant.0 c.self.inside.block.now c.block.view_is c.args.self.now c.self.view_is
