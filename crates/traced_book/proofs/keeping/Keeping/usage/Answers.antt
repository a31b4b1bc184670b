use Rattle.std.proofs.Common.{◌∙◌, ap, sym}
use Rattle.std.specs.Prelude.{slice_get}
use Rattle.traced_book.specs.Kept.{accounts_in}
use Rattle.traced_book.specs.declared.keeping.Keeping.{Keeping}
use Rattle.traced_book.proofs.keeping.Keeping.usage.Goals as goal

pub returns-in-Journals : goal.returns-in-Journals
returns-in-Journals c = λ account is. c.usage.ensures account (sym (ap (λ (kept : Keeping). slice_get (accounts_in kept) c.args.tenant) c.in-Journals.is) ∙ is)

pub returns-in-CellsAlone : goal.returns-in-CellsAlone
returns-in-CellsAlone c = λ account is. c.usage-in-CellsAlone.ensures account (sym (ap (λ (kept : Keeping). slice_get (accounts_in kept) c.args.tenant) c.in-CellsAlone.is) ∙ is)
