use Rattle.std.proofs.Common.{slice_set, sym, ap, subst, ◌∙◌}
use Rattle.version_arena.specs.Arena.{IsLive, entry, with_next}
use Rattle.version_chain.specs.Chain.{Cells}
use Rattle.version_chain.proofs.StoredNodes.{live_head, next_is, next_stays}
use Rattle.version_chain.proofs.shared_block.Block.set_next.Goals as goal

pub set_next-requires : goal.set_next-requires
set_next-requires c = live_head c.self.inside.heads c.self.inside.bodies c.args.slot (subst (λ (b : Cells). IsLive b c.args.slot) (sym c.self.view_is) c.requires)

pub invariant_of-self : goal.invariant_of-self
invariant_of-self c = (rw c.set_next.ensures (next_stays c.self.inside.heads c.self.inside.bodies c.args.slot c.args.next c.self.invariant.0 (live_head c.self.inside.heads c.self.inside.bodies c.args.slot (subst (λ (b : Cells). IsLive b c.args.slot) (sym c.self.view_is) c.requires))), c.self.invariant.1)

pub returns : goal.returns
returns c = rw c.set_next.ensures (next_is c.self.inside.heads c.self.inside.bodies c.args.slot c.args.next ∙ ap (λ (b : Cells). slice_set b c.args.slot (with_next (entry b c.args.slot) c.args.next)) c.self.view_is)
