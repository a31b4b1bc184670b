use Rattle.std.proofs.Common.{◌∙◌, List, length, ap, sym}
use Rattle.partition.specs.Accounts.{Account, events_at}
use Rattle.traced_book.proofs.Bare.{no_event}
use Rattle.traced_book.proofs.bare_shelf.BareShelf.events.Goals as goal

pub returns : goal.returns
returns c =
    let b = c.self.inside in
    sym (ap length (no_event b.shelf b.tenants.items b.shelf.cells c.args._tenant)) ∙ ap (λ (accounts : List Account). length (events_at accounts c.args._tenant)) c.self.view_is
