use Rattle.std.proofs.Common.{◌++◌, ap, length, map, arith, ◌∙◌}
use Rattle.std.specs.Prelude.{slice_get}
use Rattle.partition.specs.Accounts.{account_of}
use Rattle.partition.specs.Journals.{log_after}
use Rattle.partition.proofs.StandsOf.{stands_of}
use Rattle.partition.proofs.book.Book.holdings.Goals as goal

pub holdings-requires : goal.holdings-requires
holdings-requires c = omega (arith, c.requires, ap length c.self.view_is, c.self.invariant.as_many)

pub returns : goal.returns
returns c account at log leaves =
    let book = c.self.inside in
    let own = ap (λ accounts. slice_get accounts c.args.tenant) c.self.view_is ∙ at in
    c.holdings.ensures (log_after account.events ++ log)
    (stands_of book.shelf c.args.tenant (slice_get (map account_of book.journals.items) c.args.tenant) (slice_get book.lasts.items c.args.tenant) account own (c.self.invariant.kept c.args.tenant) log leaves)
