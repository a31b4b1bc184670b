use Rattle.std.proofs.Common.{sym, subst, ◌∙◌}
use Rattle.plain_store.specs.Words.{Room}
use Rattle.prepare_commit.specs.InBlock.{LiesIn}
use Rattle.prepare_commit.proofs.Holding.{told_held}
use Rattle.prepare_commit.proofs.cell.Cell.cut.Goals as goal

pub base_at-requires : goal.base_at-requires
base_at-requires c = record {
  lies = c.tidy.ensures.lies c.args.block.now c.requires.lies;
  log = rw c.tidy.ensures.rest c.requires.log;
  free = c.in_ok-free.ensures.free c.args.block.now c.requires.lies;
}

pub begin-requires : goal.begin-requires
begin-requires c =
    let block = c.args.block.now in
    let lies = c.tidy.ensures.lies block c.requires.lies in
    let base = c.base.inside in
    let room : Room = record { slots = base.slots; items = base.items; clients = base.clients } in
    let here = sym (told_held block _ lies base.held room base.marks.items c.base.invariant.0 c.base.invariant.1.entries_ordered (sym (c.base.view_is ∙ c.in_ok-base.ensures))) in
    (block, lies, here)

pub returns-in_err-begin-clause-lies : goal.returns-in_err-begin-clause-lies
returns-in_err-begin-clause-lies c =
    let block = c.args.block.now in
    let lies = c.tidy.ensures.lies block c.requires.lies in
    let base = c.base.inside in
    let room : Room = record { slots = base.slots; items = base.items; clients = base.clients } in
    let here = sym (told_held block _ lies base.held room base.marks.items c.base.invariant.0 c.base.invariant.1.entries_ordered (sym (c.base.view_is ∙ c.in_ok-base.ensures))) in
    c.begin.ensures.lies block lies here

pub returns-clause-lies : goal.returns-clause-lies
returns-clause-lies c =
    let block = c.args.block.now in
    let lies = c.tidy.ensures.lies block c.requires.lies in
    let base = c.base.inside in
    let room : Room = record { slots = base.slots; items = base.items; clients = base.clients } in
    let here = sym (told_held block _ lies base.held room base.marks.items c.base.invariant.0 c.base.invariant.1.entries_ordered (sym (c.base.view_is ∙ c.in_ok-base.ensures))) in
    subst (LiesIn block) (sym c.self.view_is) (c.begin.ensures.lies block lies here)
