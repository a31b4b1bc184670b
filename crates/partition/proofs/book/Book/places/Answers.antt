use Rattle.std.proofs.Common.{◌≡◌, ◌<◌, ◌+◌, ◌∙◌, List, Some, length, map, sym, ap, subst, arith}
use Rattle.std.specs.Prelude.{slice_get}
use Rattle.partition.specs.Accounts.{Account, account_of, places}
use Rattle.partition.proofs.Books.{account_read, known}
use Rattle.partition.proofs.book.Book.places.Goals as goal
use Rattle.partition.proofs.book.Book.places.Goals.{After-index-journal}

there : (c : After-index-journal) → c.args.tenant < length (map account_of c.self.inside.journals.items)
there c = subst (λ (xs : List Account). c.args.tenant < length xs) (sym c.self.view_is) c.requires

some_is : {x y : Account} → Some x ≡ Some y → x ≡ y
some_is e = cc

pub overflow_add-result : goal.overflow_add-result
overflow_add-result c =
    let b = c.self.inside in
    let k = known b.shelf b.journals.items b.lasts.items b.of_seats b.of_collector c.self.view_is c.args.tenant c.requires c.self.invariant c.index-journal.result.now c.index-journal.ensures in
    omega (arith, k.counted.0, c.len.ensures.count, c.len.ensures.few)

pub returns : goal.returns
returns c account at =
    let b = c.self.inside in
    let j = c.index-journal.result.now in
    let read = account_read b.shelf b.journals.items b.lasts.items b.of_seats b.of_collector c.args.tenant c.self.invariant j (there (goal.at.returns c).After-index-journal) c.index-journal.ensures in
    let same = some_is (sym read ∙ ap (λ accounts. slice_get accounts c.args.tenant) c.self.view_is ∙ at) in
    (ap (λ n. j.before + n) c.len.ensures.count ∙ ap places same, ap (λ (a : Account). a.start.number) same)
