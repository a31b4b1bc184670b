use Rattle.std.proofs.Common.{◌∙◌, List, length, ap}
use Rattle.partition.specs.Accounts.{Account}
use Rattle.traced_book.proofs.Bare.{tenants_there}
use Rattle.traced_book.proofs.bare_shelf.BareShelf.tenants.Goals as goal

pub returns : goal.returns
returns c =
    let b = c.self.inside in
    c.tenants.ensures ∙ tenants_there b.shelf b.tenants.items c.self.invariant ∙ ap (λ (accounts : List Account). length accounts) c.self.view_is
