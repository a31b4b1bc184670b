use Rattle.std.proofs.Common.{◌≡◌, ◌<◌, ℕ, length, map, set, get_or, Some, Result, Ok, Err, refl, sym, ap, ◌∙◌, subst, arith}
use Rattle.std.specs.Prelude.{slice_get, IfOk}
use Rattle.std.proofs.lemmas.List.{length-map, map-set, set-get_or, get_or-map}
use Rattle.std.proofs.lemmas.Option.{slice_get_read, slice_get_within}
use Rattle.plain_store.specs.Replies.{IsSound}
use Rattle.plain_store.specs.Words.{Room}
use Rattle.version_chain.specs.Chain.{Cells as Block}
use Rattle.version_chain.specs.Heads.{Heads}
use Rattle.version_chain.specs.Sharing.{ChangesOwn}
use Rattle.prepare_commit.specs.Bases.{Frozen, base_of}
use Rattle.prepare_commit.specs.Content.{Content}
use Rattle.prepare_commit.specs.InBlock.{Parts, content_in}
use Rattle.prepare_commit.specs.Marks.{marks_of}
use Rattle.version_chain.proofs.Changing.{own_none}
use Rattle.partition.specs.Shelf.{ShelfCells, contents, IsBaseAt, HasLogAt}
use Rattle.partition.proofs.OneCell.{slice_get-mapped, cell_there, cell_room, stands_there, in_block_next}
use Rattle.partition.proofs.shelf.Shelf.base.Goals as goal
use Rattle.partition.proofs.shelf.Shelf.base.Goals.{After-index_mut-cell}

inside : (cells : ShelfCells) (tenant : ℕ) → HasLogAt cells tenant → tenant < length cells.cells
inside cells tenant has =
    let there = cell_there cells tenant has.0 has.2 in
    let within = slice_get_within (contents cells) tenant there.0 there.1 in
    omega (arith, within, length-map cells.cells (content_in cells.block))

pub index_mut-cell-requires : goal.index_mut-cell-requires
index_mut-cell-requires c =
    let there = inside c.args.self.now c.args.tenant c.requires in
    omega (arith, there, ap (λ (s : ShelfCells). length s.cells) c.self.view_is, c.self.inside.cells.ok.0)

within : (c : After-index_mut-cell) → c.args.tenant < length c.self.inside.cells.items
within c =
    let there = inside c.args.self.now c.args.tenant c.requires in
    omega (arith, there, ap (λ (s : ShelfCells). length s.cells) c.self.view_is)

read : (c : After-index_mut-cell) → slice_get c.self.inside.cells.items c.args.tenant ≡ Some c.index_mut-cell.result.now
read c = slice_get_read c.self.inside.cells.items (length c.self.inside.cells.items) c.args.tenant _ refl (within c) c.index_mut-cell.ensures.value

seen : (c : After-index_mut-cell) → slice_get (contents c.args.self.now) c.args.tenant ≡ Some (content_in c.self.inside.block c.index_mut-cell.result.now)
seen c =
    ap (λ (s : ShelfCells). slice_get (contents s) c.args.tenant) (sym c.self.view_is)
    ∙ slice_get-mapped (content_in c.self.inside.block) c.self.inside.cells.items c.args.tenant _ (read c)

pub cut-requires-clause-lies : goal.cut-requires-clause-lies
cut-requires-clause-lies c = c.self.invariant.0.lie c.args.tenant _ (read (goal.at.cut-requires-clause-lies c).After-index_mut-cell)

pub cut-requires-clause-log : goal.cut-requires-clause-log
cut-requires-clause-log c =
    let cell : Content = content_in c.self.inside.block c.index_mut-cell.result.now in
    let at = seen (goal.at.cut-requires-clause-log c).After-index_mut-cell in (
      c.requires.0,
      subst (λ (room : Room). IsSound room c.requires.0) (cell_room c.args.self.now c.args.tenant cell at) c.requires.1,
      stands_there c.args.self.now c.args.tenant cell c.requires.0 at c.requires.2,
    )

holds : {E : Type 0} (cells : ShelfCells) (tenant : ℕ) (block : Block) (cell : Parts) (r : Result Frozen E) → slice_get (contents cells) tenant ≡ Some (content_in block cell)
    → IfOk r (λ base. base ≡ base_of block cell) → IfOk r (λ base. IsBaseAt cells tenant base)
unfolding IsBaseAt
holds cells tenant block cell (Err e) at is = tt
holds cells tenant block cell (Ok base) at is =
    rw at (record {
      room = ap (λ (b : Frozen). b.room) is;
      versions = ap (λ (b : Frozen). b.versions) is;
      entries = ap (λ (b : Frozen). b.entries) is;
      marks = ap (λ (b : Frozen). marks_of b.marks) is;
    })

pub returns-clause-base : goal.returns-clause-base
returns-clause-base c = holds c.args.self.now c.args.tenant c.self.inside.block c.index_mut-cell.result.now c.cut.result (seen (goal.at.returns-clause-base c).After-index_mut-cell) c.cut.ensures.base

pub invariant_of-self : goal.invariant_of-self
invariant_of-self c =
    let at = (goal.at.invariant_of-self c).After-index_mut-cell in
    let block = c.self.inside.block in
    let before = c.index_mut-cell.result.now in
    let own : ChangesOwn block block before.chains c.cut.new.self.chains =
    subst (λ (h : Heads). ChangesOwn block block before.chains h) (sym (ap (λ (p : Parts). p.chains) c.cut.ensures.rest)) (own_none block before.chains) in
    (in_block_next block block c.self.inside.cells.items c.args.tenant before c.cut.new.self c.self.invariant.0 (read at) c.cut.ensures.lies own, c.self.invariant.1)

pub returns-clause-same : goal.returns-clause-same
returns-clause-same c =
    let at = (goal.at.returns-clause-same c).After-index_mut-cell in
    let block = c.self.inside.block in
    let cells = c.self.inside.cells.items in
    let before = c.index_mut-cell.result.now in
    let same : content_in block c.cut.new.self ≡ content_in block before = ap (content_in block) c.cut.ensures.rest in
    let there : content_in block before ≡ get_or (map (content_in block) cells) c.args.tenant (content_in block before) =
    ap (content_in block) c.index_mut-cell.ensures.value ∙ sym (get_or-map (content_in block) cells c.args.tenant before (content_in block before) (within at)) in
    map-set (content_in block) cells c.args.tenant c.cut.new.self
    ∙ ap (λ (x : Content). set (map (content_in block) cells) c.args.tenant x) (same ∙ there)
    ∙ set-get_or (map (content_in block) cells) c.args.tenant (content_in block before)
    ∙ ap contents c.self.view_is
