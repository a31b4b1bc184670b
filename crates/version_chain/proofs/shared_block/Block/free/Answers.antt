use Rattle.std.proofs.Common.{None, slice_set, sym, ap, subst, ◌∙◌}
use Rattle.version_arena.specs.Arena.{IsLive}
use Rattle.version_chain.specs.Chain.{Cells}
use Rattle.version_chain.proofs.StoredNodes.{live_head, live_short, stored_write, write_stored}
use Rattle.version_chain.proofs.shared_block.Block.free.Goals as goal

pub take-requires : goal.take-requires
take-requires c = live_head c.self.inside.heads c.self.inside.bodies c.args.slot (subst (λ (b : Cells). IsLive b c.args.slot) (sym c.self.view_is) c.requires)

pub invariant_of-self : goal.invariant_of-self
invariant_of-self c =
    let live = live_head c.self.inside.heads c.self.inside.bodies c.args.slot (subst (λ (b : Cells). IsLive b c.args.slot) (sym c.self.view_is) c.requires) in
    (rw c.take.ensures.freed (write_stored c.self.inside.heads c.self.inside.bodies c.self.invariant.0 c.args.slot (live_short c.self.inside.heads c.args.slot live) None tt), c.self.invariant.1)

pub returns : goal.returns
returns c = rw c.take.ensures.freed (stored_write c.self.inside.heads c.self.inside.bodies c.args.slot None ∙ ap (λ (b : Cells). slice_set b c.args.slot None) c.self.view_is)
