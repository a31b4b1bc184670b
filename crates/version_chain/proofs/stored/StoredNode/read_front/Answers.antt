use Rattle.std.proofs.Common.{◌≡◌, min, sym, ap, subst, ◌∙◌}
use Rattle.version_arena.specs.SlotBytes.{bytes_at}
use Rattle.version_arena.specs.Arena.{IsLive}
use Rattle.version_chain.specs.Chain.{Cells}
use Rattle.version_chain.proofs.StoredNodes.{live_head, body_shown, front_is, store_shown, stored_at}
use Rattle.version_chain.proofs.stored.StoredNode.read_front.Goals as goal

pub get-requires : goal.get-requires
get-requires c = live_head c.block.inside.heads c.block.inside.bodies c.self.inside.slot (subst (λ (b : Cells). IsLive b c.self.inside.slot) (sym c.block.view_is) c.self.invariant)

pub returns-clause-front : goal.returns-clause-front
returns-clause-front c =
    let its = stored_at c.block.inside.heads c.block.inside.bodies c.self.inside.slot c.get.result.now _ c.get.ensures c.block.invariant.0 in
    let first : c.min-len.result ≡ min c.get.result.now.len 64 = c.min-len.ensures ∙ ap (λ n. min n 64) c.from.ensures in
    front_is (bytes_at c.block.inside.bodies c.self.inside.slot) _ c.read.new.out c.get.result.now.len c.min-len.result (body_shown c.block.inside.heads c.block.inside.bodies c.self.inside.slot c.get.result.now _ c.get.ensures c.block.invariant.0 c.self.inside.block.now c.block.view_is c.args.self.now c.self.view_is) its.there first c.read.ensures

pub returns-clause-stored : goal.returns-clause-stored
returns-clause-stored c = store_shown c.block.inside.heads c.block.inside.bodies c.self.inside.slot c.get.result.now _ c.get.ensures c.block.invariant.0 c.self.inside.block.now c.block.view_is c.args.self.now c.self.view_is
