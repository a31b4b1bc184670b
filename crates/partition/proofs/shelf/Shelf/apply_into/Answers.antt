use Rattle.std.proofs.Common.{◌≡◌, ◌<◌, length, set, Some, refl, ap, ◌∙◌, arith}
use Rattle.std.specs.Prelude.{slice_get}
use Rattle.std.proofs.lemmas.List.{length-set}
use Rattle.std.proofs.lemmas.Option.{slice_get_read}
use Rattle.partition.specs.Shelf.{ShelfCells, tenants}
use Rattle.partition.specs.OneBlock.{AreInBlock}
use Rattle.partition.proofs.Once.{is_shared}
use Rattle.partition.proofs.Placed.{carried}
use Rattle.partition.proofs.OneCell.{share_of, write_serves, others_kept, in_block_next}
use Rattle.partition.proofs.shelf.Shelf.apply_into.Goals as goal
use Rattle.partition.proofs.shelf.Shelf.apply_into.Goals.{After-index_mut-cell, After-apply_into}

pub index_mut-cell-requires : goal.index_mut-cell-requires
unfolding tenants
index_mut-cell-requires c = omega (arith, c.requires, ap (λ (s : ShelfCells). length s.cells) c.self.view_is, c.self.inside.cells.ok.0)

there : (c : After-apply_into) → c.args.tenant < length c.self.inside.cells.items
unfolding tenants
there c = omega (arith, c.requires, ap (λ (s : ShelfCells). length s.cells) c.self.view_is)

within : (c : After-index_mut-cell) → c.args.tenant < length c.self.inside.cells.items
unfolding tenants
within c = omega (arith, c.requires, ap (λ (s : ShelfCells). length s.cells) c.self.view_is)

was : (c : After-index_mut-cell) → slice_get c.self.inside.cells.items c.args.tenant ≡ Some c.index_mut-cell.result.now
was c = slice_get_read c.self.inside.cells.items (length c.self.inside.cells.items) c.args.tenant _ refl (within c) c.index_mut-cell.ensures.value

pub apply_into-requires : goal.apply_into-requires
apply_into-requires c =
    let at = was (goal.at.apply_into-requires c).After-index_mut-cell in
    record { lies = c.self.invariant.0.lie c.args.tenant _ at; share = share_of c.self.inside.block c.self.inside.cells.items c.args.tenant _ c.self.invariant.0 at }

-- the tenants share the block behind the call
next : (c : After-apply_into) → AreInBlock c.apply_into.new.block (set c.self.inside.cells.items c.args.tenant c.apply_into.new.self)
next c =
    in_block_next c.self.inside.block c.apply_into.new.block c.self.inside.cells.items c.args.tenant c.index_mut-cell.result.now c.apply_into.new.self c.self.invariant.0
    (slice_get_read c.self.inside.cells.items (length c.self.inside.cells.items) c.args.tenant _ refl (there c) c.index_mut-cell.ensures.value) c.apply_into.ensures.lies c.apply_into.ensures.own

pub invariant_of-self : goal.invariant_of-self
invariant_of-self c = (next (goal.at.invariant_of-self c).After-apply_into, c.self.invariant.1)

pub returns-clause-shared : goal.returns-clause-shared
returns-clause-shared c = is_shared c.apply_into.new.block (set c.self.inside.cells.items c.args.tenant c.apply_into.new.self) (next (goal.at.returns-clause-shared c).After-apply_into)

pub returns-clause-serves : goal.returns-clause-serves
returns-clause-serves c =
    let at = (goal.at.returns-clause-serves c).After-index_mut-cell in
    rw (← c.self.view_is)
    (carried (λ told. write_serves c.self.inside.block c.apply_into.new.block c.self.inside.cells.items c.args.tenant c.index_mut-cell.result.now c.apply_into.new.self c.self.invariant.0 (was at) c.apply_into.ensures.lies c.apply_into.ensures.own _ told)
    _ c.apply_into.ensures.serves)

pub returns-clause-others : goal.returns-clause-others
returns-clause-others c =
    let at = (goal.at.returns-clause-others c).After-index_mut-cell in
    rw (← c.self.view_is) (others_kept c.self.inside.block c.apply_into.new.block c.self.inside.cells.items c.args.tenant c.index_mut-cell.result.now c.apply_into.new.self c.self.invariant.0 (was at) c.apply_into.ensures.lies c.apply_into.ensures.own)

pub returns-clause-tenants : goal.returns-clause-tenants
unfolding tenants
returns-clause-tenants c =
    length-set c.self.inside.cells.items c.args.tenant c.apply_into.new.self
    ∙ ap (λ (s : ShelfCells). length s.cells) c.self.view_is
