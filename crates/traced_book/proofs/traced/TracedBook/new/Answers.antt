use Rattle.std.proofs.Common.{sym, subst, arith}
use Rattle.history.proofs.Servings.{opened_count}
use Rattle.traced_book.specs.Traced.{AreTraced}
use Rattle.traced_book.proofs.Tracing.{opened_traced}
use Rattle.traced_book.proofs.traced.TracedBook.new.Goals as goal

pub invariant_of-result : goal.invariant_of-result
invariant_of-result g c = (
  subst (AreTraced c.args.front c.args.partition) (sym c.requires.book) (opened_traced c.args.front c.args.partition c.requires.opened),
  opened_count c.args.tally.key c.args.front c.requires.opened,
  c.requires.tally,
  c.requires.few,
  omega arith,
)
