use Rattle.std.proofs.Common.{◌<◌, Option, length, refl, sym, ap, subst, arith}
use Rattle.std.proofs.lemmas.Option.{slice_get_read}
use Rattle.prepare_commit.specs.Content.{Content}
use Rattle.prepare_commit.specs.InBlock.{content_in}
use Rattle.prepare_commit.proofs.HeldAfter.{held_after}
use Rattle.partition.specs.Shelf.{ShelfCells, StandsFor, StandsIn, on_shelf, tenants}
use Rattle.partition.proofs.OneCell.{slice_get-mapped}
use Rattle.partition.proofs.shelf.Shelf.holdings.Goals as goal
use Rattle.partition.proofs.shelf.Shelf.holdings.Goals.{After-index}

within : (c : After-index) → c.args.tenant < length c.self.inside.cells.items
unfolding tenants
within c = omega (arith, c.requires, ap (λ (s : ShelfCells). length s.cells) c.self.view_is)

pub index-requires : goal.index-requires
unfolding tenants
index-requires c = omega (arith, c.requires, ap (λ (s : ShelfCells). length s.cells) c.self.view_is, c.self.inside.cells.ok.0)

pub returns : goal.returns
unfolding StandsFor
returns c log stands =
    let cells = c.self.inside.cells.items in
    let block = c.self.inside.block in
    let is = slice_get_read cells (length cells) c.args.tenant _ refl (within (goal.at.returns c).After-index) c.index.ensures in
    let seen = slice_get-mapped (content_in block) cells c.args.tenant _ is in
    let here : StandsFor (on_shelf block cells) c.args.tenant log = subst (λ (s : ShelfCells). StandsFor s c.args.tenant log) (sym c.self.view_is) stands in
    held_after (content_in block c.index.result.now) log c.holdings.result (subst (λ (o : Option Content). StandsIn o log) seen here)
    (c.holdings.ensures block (c.self.invariant.0.lie c.args.tenant _ is))
