use Rattle.std.proofs.Common.{List, sym, ap, subst, ◌∙◌}
use Rattle.prepare_commit.specs.InBlock.{Parts}
use Rattle.partition.specs.OneBlock.{IsShared}
use Rattle.partition.specs.Shelf.{on_shelf}
use Rattle.partition.proofs.Once.{is_shared}
use Rattle.partition.proofs.shelf.Shelf.parts.Goals as goal

pub returns-clause-seen : goal.returns-clause-seen
returns-clause-seen c = sym c.self.view_is ∙ ap (on_shelf c.self.inside.block) (sym c.deref.ensures.value)

pub returns-clause-shared : goal.returns-clause-shared
returns-clause-shared c =
    let P : List Parts → Type 0 = λ cells. IsShared c.self.inside.block cells in
    subst P (sym c.deref.ensures.value) (is_shared c.self.inside.block c.self.inside.cells.items c.self.invariant.0)
