use Rattle.std.proofs.Common.{length, sym, ap, ◌∙◌}
use Rattle.partition.proofs.Books.{known}
use Rattle.partition.proofs.book.Book.events.Goals as goal

pub returns : goal.returns
returns c =
    let b = c.self.inside in
    let k = known b.shelf b.journals.items b.lasts.items b.of_seats b.of_collector c.self.view_is c.args.tenant c.requires c.self.invariant c.index.result.now c.index.ensures in
    c.len.ensures.count ∙ sym (ap length k.events)
