use Rattle.partition.proofs.Books.{book_at}
use Rattle.partition.proofs.book.Book.at.Goals as goal

pub invariant_of-result : goal.invariant_of-result
invariant_of-result c =
    rw c.in_ok-journals.ensures
    (book_at c.in_ok-shelf.shelf c.in-Some.limits c.args.base.now c.in_ok-shelf.ensures.tenants c.in_ok-shelf.ensures.room c.in-Some.ensures.room c.in_ok-shelf.ensures.stands c.in_ok-shelf.ensures.log
    c.in_ok-lasts.lasts.items c.in_ok-lasts.ensures.many c.in_ok-lasts.ensures.new)
