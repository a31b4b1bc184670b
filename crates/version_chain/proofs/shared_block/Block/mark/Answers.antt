use Rattle.std.proofs.Common.{sym, subst}
use Rattle.version_arena.specs.Arena.{IsLive, next_beside}
use Rattle.version_chain.specs.Chain.{Cells}
use Rattle.version_chain.proofs.StoredNodes.{live_head, mark_stays, marked_at}
use Rattle.version_chain.proofs.shared_block.Block.mark.Goals as goal

pub get_mut-head-requires : goal.get_mut-head-requires
get_mut-head-requires c = live_head c.self.inside.heads c.self.inside.bodies c.args.slot (subst (λ (b : Cells). IsLive b c.args.slot) (sym c.self.view_is) c.requires)

pub invariant_of-self : goal.invariant_of-self
invariant_of-self c = (mark_stays c.self.inside.heads c.self.inside.bodies c.args.slot c.get_mut-head.result.now (next_beside c.self.inside.heads c.args.slot) c.get_mut-head.ensures.value c.self.invariant.0, c.self.invariant.1)

pub returns : goal.returns
returns c = rw (← c.self.view_is) (marked_at c.self.inside.heads c.self.inside.bodies c.args.slot c.get_mut-head.result.now c.get_mut-head.ensures.value)
