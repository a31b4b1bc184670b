use Rattle.std.proofs.Common.{◌∙◌, ap}
use Rattle.std.specs.Prelude.{slice_get}
use Rattle.traced_book.specs.Traced.{Tracing}
use Rattle.traced_book.proofs.traced.TracedBook.usage.Goals as goal

pub returns : goal.returns
returns g c = λ account is. c.usage.ensures account (ap (λ (t : Tracing). slice_get t.accounts c.args.tenant) c.self.view_is ∙ is)
