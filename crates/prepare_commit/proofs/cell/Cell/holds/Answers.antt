use Rattle.std.proofs.Common.{sym, ap, ◌∙◌}
use Rattle.prepare_commit.specs.Bases.{Frozen, base_of}
use Rattle.prepare_commit.specs.Begun.{holdings}
use Rattle.prepare_commit.specs.InBlock.{Parts}
use Rattle.prepare_commit.specs.Layout.{chain_lists}
use Rattle.plain_store.specs.Words.{Room}
use Rattle.prepare_commit.proofs.Holding.{held_told, told_held}
use Rattle.prepare_commit.proofs.Lying.{lies_at}
use Rattle.prepare_commit.proofs.Places.{if_ok}
use Rattle.prepare_commit.proofs.cell.Cell.holds.Goals as goal

pub returns : goal.returns
returns c =
    let block = c.args.block.now in
    let lies = lies_at block _ _ c.self.view_is c.requires in
    let base = c.base.inside in
    let room : Room = record { slots = base.slots; items = base.items; clients = base.clients } in
    let here = ap (λ (p : Parts). holdings p.items (chain_lists block p.chains)) c.self.view_is in
    let rooms = ap (λ (p : Parts). p.room) c.self.view_is ∙ c.has_room_of.ensures.0 c.if-not-has_room_of.false ∙ sym (ap (λ (b : Frozen). b.room) c.base.view_is) in
    let marks = sym c.deref.ensures.value ∙ c.are_marks.ensures.0 c.if-not-are_marks.false ∙ c.deref-2.ensures.value in
    if_ok
    (λ yes both. (
      λ is. sym (ap (base_of block) c.self.view_is) ∙ held_told block _ lies base.held room base.marks.items (here ∙ both.0 is) rooms marks ∙ c.base.view_is,
      λ same. both.1 (sym here ∙ told_held block _ lies base.held room base.marks.items c.base.invariant.0 c.base.invariant.1.entries_ordered (ap (base_of block) c.self.view_is ∙ same ∙ sym c.base.view_is)),
    ))
    c.has.result c.has.ensures
