use Rattle.std.proofs.Common.{◌≡◌, length, Some, None, slice_set, refl, sym, ap, subst, ◌∙◌, arith}
use Rattle.stamps.specs.Record.{Record}
use Rattle.version_arena.specs.Arena.{entry, live_count}
use Rattle.version_arena.specs.SlotBytes.{bytes_at}
use Rattle.version_chain.specs.declared.version.Head.{Head}
use Rattle.version_chain.specs.Chain.{Cells}
use Rattle.version_chain.specs.Stored.{HeadCells, stored_cell, stored_cells}
use Rattle.version_chain.proofs.StoredNodes.{body_put, body_read, live_many, put_is, put_stays, stored_entry, stored_long}
use Rattle.version_chain.proofs.shared_block.Block.put.Goals as goal
use Rattle.version_chain.proofs.shared_block.Block.put.Goals.{After-put-2}

pub pack_body-len-requires : goal.pack_body-len-requires
pack_body-len-requires c = omega (arith, c.self.invariant.1)

pub unreachable-requires : goal.unreachable-requires
unreachable-requires c =
    let heads = c.self.inside.heads in
    let bodies = c.self.inside.bodies in
    omega (arith, c.in_default.ensures.full, c.requires, live_many heads bodies, stored_long heads bodies, ap (λ (b : Cells). live_count b) c.self.view_is, ap (λ (b : Cells). length b) c.self.view_is)

pub returns-clause-was_free : goal.returns-clause-was_free
returns-clause-was_free c =
    let heads = c.self.inside.heads in
    let bodies = c.self.inside.bodies in
    let slot = c.in-Ok.slot in
    let free = c.in-Ok.ensures.was_free in (
      omega (arith, free.0, stored_long heads bodies, ap (λ (b : Cells). length b) c.self.view_is),
      subst (λ (b : Cells). entry b slot ≡ None) c.self.view_is (stored_entry heads bodies slot ∙ ap (λ c. stored_cell c (bytes_at bodies slot)) free.1),
    )

abbrev head : (c : After-put-2) → Head
head c = record { stamp = c.stamp_of.result; tenant = c.args.tenant; chain = c.args.chain; len = c.pack_body-len.result; tag_len = c.tag_len_of.result; committed = c.args.committed }

pub invariant_of-self : goal.invariant_of-self
invariant_of-self c =
    let at = (goal.at.invariant_of-self c).After-put-2 in
    let put = c.put-2.ensures in
    let packed = c.pack_body-len.ensures in
    let read = body_read c.args.prepared.now.stamp (head at) (bytes_at c.put-2.new.self c.in-Ok.slot) c.pack_body-len.new.bytes c.pack_body-len.result c.args.prepared.now refl c.stamp_of.ensures put.put packed.read in (
      rw c.in-Ok.ensures.put (put_stays c.self.inside.heads c.self.inside.bodies c.put-2.new.self c.in-Ok.slot (head at) c.args.next c.in-Ok.ensures.was_free.0 c.self.invariant.0 put.others
          (body_put c.args.prepared.now.stamp (head at) (bytes_at c.put-2.new.self c.in-Ok.slot) c.pack_body-len.new.bytes c.pack_body-len.result refl c.stamp_of.ensures put.put packed.body put.long packed.few
          (c.tag_len_of.ensures ∙ ap (λ (r : Record). length r.tag) (sym read)))),
      c.pack_body-len.auto.bytes ∙ c.self.invariant.1,
    )

pub returns-clause-put : goal.returns-clause-put
returns-clause-put c =
    let at = (goal.at.returns-clause-put c).After-put-2 in
    let new = c.put-2.new.self in
    let slot = c.in-Ok.slot in
    let put = c.put-2.ensures in
    let read = body_read c.args.prepared.now.stamp (head at) (bytes_at new slot) c.pack_body-len.new.bytes c.pack_body-len.result c.args.prepared.now refl c.stamp_of.ensures put.put c.pack_body-len.ensures.read in
    ap (λ (h : HeadCells). stored_cells h new) c.in-Ok.ensures.put
    ∙ put_is c.self.inside.heads c.self.inside.bodies new slot (head at) c.args.next c.in-Ok.ensures.was_free.0 c.self.invariant.0 put.others c.args.prepared.now read
    ∙ ap (λ (b : Cells). slice_set b slot (Some (record { version = record { prepared = c.args.prepared.now; committed = c.args.committed }; tenant = c.args.tenant; chain = c.args.chain }, c.args.next))) c.self.view_is
