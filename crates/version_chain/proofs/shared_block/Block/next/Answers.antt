use Rattle.std.proofs.Common.{sym, subst}
use Rattle.version_arena.specs.Arena.{IsLive}
use Rattle.version_chain.specs.Chain.{Cells}
use Rattle.version_chain.proofs.StoredNodes.{live_head, stored_next}
use Rattle.version_chain.proofs.shared_block.Block.next.Goals as goal

pub next-requires : goal.next-requires
next-requires c = live_head c.self.inside.heads c.self.inside.bodies c.args.slot (subst (λ (b : Cells). IsLive b c.args.slot) (sym c.self.view_is) c.requires)

pub returns : goal.returns
returns c = rw (← c.self.view_is, stored_next c.self.inside.heads c.self.inside.bodies c.args.slot) c.next.ensures
