use Rattle.std.proofs.Common.{◌≤◌, ◌+◌, length, take, sym, ap, subst, ◌∙◌}
use Rattle.version_arena.specs.SlotBytes.{bytes_at}
use Rattle.version_arena.specs.Arena.{IsLive}
use Rattle.version_chain.specs.Chain.{Cells}
use Rattle.version_chain.proofs.StoredNodes.{live_head, body_shown, len_shown, store_shown}
use Rattle.version_chain.proofs.stored.StoredNode.read.Goals as goal

pub get-requires : goal.get-requires
get-requires c = live_head c.block.inside.heads c.block.inside.bodies c.self.inside.slot (subst (λ (b : Cells). IsLive b c.self.inside.slot) (sym c.block.view_is) c.self.invariant)

pub read-requires-clause-room : goal.read-requires-clause-room
read-requires-clause-room c = subst (λ n. n + 63 ≤ length c.args.body.now) (sym (c.from-len.ensures ∙ len_shown c.block.inside.heads c.block.inside.bodies c.self.inside.slot c.get.result.now _ c.get.ensures c.block.invariant.0 c.self.inside.block.now c.block.view_is c.args.self.now c.self.view_is)) c.requires

pub returns-clause-packed : goal.returns-clause-packed
returns-clause-packed c = c.read.ensures ∙ ap (λ n. take n (bytes_at c.block.inside.bodies c.self.inside.slot)) c.from-len.ensures ∙ body_shown c.block.inside.heads c.block.inside.bodies c.self.inside.slot c.get.result.now _ c.get.ensures c.block.invariant.0 c.self.inside.block.now c.block.view_is c.args.self.now c.self.view_is

pub returns-clause-stored : goal.returns-clause-stored
returns-clause-stored c = store_shown c.block.inside.heads c.block.inside.bodies c.self.inside.slot c.get.result.now _ c.get.ensures c.block.invariant.0 c.self.inside.block.now c.block.view_is c.args.self.now c.self.view_is
