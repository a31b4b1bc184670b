use Rattle.std.proofs.Common.{◌++◌, map, ap, subst, ◌∙◌}
use Rattle.std.specs.Prelude.{slice_get}
use Rattle.partition.specs.Accounts.{account_of}
use Rattle.partition.specs.Journals.{log_after}
use Rattle.partition.specs.Shelf.{ShelfCells, StandsFor}
use Rattle.partition.proofs.StandsOf.{stands_of}
use Rattle.partition.proofs.book.Book.parts.Goals as goal

pub returns-clause-stand : goal.returns-clause-stand
returns-clause-stand c tenant account at log leaves =
    let book = c.self.inside in
    let own = ap (λ accounts. slice_get accounts tenant) c.self.view_is ∙ at in
    let P : ShelfCells → Type 0 = λ cells. StandsFor cells tenant (log_after account.events ++ log) in
    subst P c.parts.ensures.seen (stands_of book.shelf tenant (slice_get (map account_of book.journals.items) tenant) (slice_get book.lasts.items tenant) account own (c.self.invariant.kept tenant) log leaves)
