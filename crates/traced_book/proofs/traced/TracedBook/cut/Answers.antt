use Rattle.std.proofs.Common.{◌<◌, List, length, ap, sym, subst}
use Rattle.std.specs.Prelude.{IfOk}
use Rattle.partition.specs.Accounts.{Account}
use Rattle.traced_book.specs.Kept.{accounts_in}
use Rattle.traced_book.specs.Traced.{IsLatestEpoch, Tracing}
use Rattle.traced_book.proofs.Tracing.{cut_or_not, latest_or_not, stays_so}
use Rattle.traced_book.proofs.traced.TracedBook.cut.Goals as goal

pub invariant_of-self : goal.invariant_of-self
invariant_of-self g c =
    let b = c.self.inside in
    let P : List Account → Type 0 = λ accounts. c.args.tenant < length accounts in
    let there : P (accounts_in b.kept) = subst P (sym (ap (λ (t : Tracing). t.accounts) c.self.view_is)) c.requires in (
      cut_or_not b.front b.partition c.args.tenant (accounts_in b.kept) (accounts_in c.cut.new.self) c.cut.result there c.cut.ensures.cut (stays_so accounts_in c.cut.new.self b.kept c.cut.result c.cut.ensures.unchanged) c.self.invariant.0,
      c.self.invariant.1,
      c.self.invariant.2,
      c.self.invariant.3,
      c.self.invariant.4,
    )

pub returns-clause-latest : goal.returns-clause-latest
returns-clause-latest g c =
    let b = c.self.inside in
    let P : List Account → Type 0 = λ accounts. c.args.tenant < length accounts in
    let there : P (accounts_in b.kept) = subst P (sym (ap (λ (t : Tracing). t.accounts) c.self.view_is)) c.requires in
    let Q : Tracing → Type 0 = λ t. IfOk c.cut.result (λ epoch. IsLatestEpoch t.seen t.partition c.args.tenant epoch) in
    subst Q c.self.view_is (latest_or_not b.front b.partition c.args.tenant (accounts_in b.kept) (accounts_in c.cut.new.self) c.cut.result there c.cut.ensures.cut c.self.invariant.0)
