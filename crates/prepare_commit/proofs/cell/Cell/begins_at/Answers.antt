use Rattle.std.proofs.Common.{sym, ◌∙◌}
use Rattle.plain_store.specs.Words.{Room}
use Rattle.prepare_commit.proofs.Holding.{told_held}
use Rattle.prepare_commit.proofs.cell.Cell.begins_at.Goals as goal

pub begin-requires : goal.begin-requires
begin-requires c =
    let block = c.args.block.now in
    let base = c.base.inside in
    let room : Room = record { slots = base.slots; items = base.items; clients = base.clients } in
    let here = sym (told_held block _ c.requires base.held room base.marks.items c.base.invariant.0 c.base.invariant.1.entries_ordered (c.in_ok-begins_there.ensures.0 c.if-begins_there.true ∙ sym c.base.view_is)) in
    (block, c.requires, here)

pub returns-in_err-begin-clause-lies : goal.returns-in_err-begin-clause-lies
returns-in_err-begin-clause-lies c =
    let block = c.args.block.now in
    let base = c.base.inside in
    let room : Room = record { slots = base.slots; items = base.items; clients = base.clients } in
    let here = sym (told_held block _ c.requires base.held room base.marks.items c.base.invariant.0 c.base.invariant.1.entries_ordered (c.in_ok-begins_there.ensures.0 c.if-begins_there.true ∙ sym c.base.view_is)) in
    c.begin.ensures.lies block c.requires here

pub returns-in_ok-begin-clause-lies : goal.returns-in_ok-begin-clause-lies
returns-in_ok-begin-clause-lies c =
    let block = c.args.block.now in
    let base = c.base.inside in
    let room : Room = record { slots = base.slots; items = base.items; clients = base.clients } in
    let here = sym (told_held block _ c.requires base.held room base.marks.items c.base.invariant.0 c.base.invariant.1.entries_ordered (c.in_ok-begins_there.ensures.0 c.if-begins_there.true ∙ sym c.base.view_is)) in
    c.begin.ensures.lies block c.requires here
