use Rattle.closed_store.proofs.Risen.{not_true}
use Rattle.closed_store.proofs.JoinedRows.{all_fit, same_rise, all_sound}
use Rattle.closed_store.proofs.closed.Closed.join.Goals as goal

pub returns-then-not-branch-clause-numbers : goal.returns-then-not-branch-clause-numbers
returns-then-not-branch-clause-numbers c is =
    let limits = c.args.self.config.limits.items in
    let given = c.args.epochs.items in
    let rows = c.args.self.journals.items in
    let journals = c.in_ok-journals.journals.items in
    let joined = rw (c.deref-3.ensures.value, c.deref-4.ensures.value) at c.in_ok-journals.ensures.joined in
    let rises = rw c.deref-5.ensures.value at c.in_ok-all_rise.ensures.1 in (
      all_fit limits given rows journals joined,
      λ other are rise. not_true c.in_ok-all_rise.field-0 c.if-not-branch.true (rises (same_rise limits given rows journals other joined are rise)),
    )

pub returns-clause-sound : goal.returns-clause-sound
returns-clause-sound c =
    let joined = rw (c.deref-3.ensures.value, c.deref-4.ensures.value) at c.in_ok-journals.ensures.joined in
    let rises = rw c.deref-5.ensures.value at c.in_ok-all_rise.ensures.0 in
    all_sound c.args.self.config.limits.items c.args.epochs.items c.args.self.journals.items c.in_ok-journals.journals.items joined (rises c.if-not-branch.false)
