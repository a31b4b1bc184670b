use Rattle.std.proofs.Common.{List, map, sym, subst, arith}
use Rattle.stamps.specs.declared.bounds.Limits.{Limits}
use Rattle.partition.specs.Accounts.{new_account}
use Rattle.history.proofs.Servings.{opened_count}
use Rattle.traced_book.specs.Traced.{AreTraced}
use Rattle.traced_book.proofs.Tracing.{begun_traced, opened_traced}
use Rattle.traced_book.proofs.traced.TracedBook.without_journals.Goals as goal

pub invariant_of-result : goal.invariant_of-result
invariant_of-result g c = (
  begun_traced c.args.front c.args.partition (map new_account c.args.limits.now) c.in_ok-shelf.shelf c.in_ok-shelf.ensures
      (subst (λ (limits : List Limits). AreTraced c.args.front c.args.partition (map new_account limits)) (sym c.requires.limits) (opened_traced c.args.front c.args.partition c.requires.opened)),
  opened_count c.args.tally.key c.args.front c.requires.opened,
  c.requires.tally,
  c.requires.few,
  omega arith,
)
