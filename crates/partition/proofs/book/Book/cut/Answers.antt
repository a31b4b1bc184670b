use Rattle.std.proofs.Common.{◌≡◌, ◌-◌, ◌<◌, arith, sym, ◌∙◌, ap, subst, List, length, map, count_by, set, Some}
use Rattle.std.specs.Prelude.{slice_get}
use Rattle.prepare_commit.specs.Bases.{Frozen}
use Rattle.partition.specs.Journals.{IsEnd}
use Rattle.partition.specs.Accounts.{Account, account_of, next_account, IsPast, IsPastAt, is_of_seat, is_of_collector}
use Rattle.partition.proofs.Entering.{err_is}
use Rattle.partition.proofs.Books.{Changes, journal_read, table_within, counted_read, past_read, kept_read, OnErr-always, book_refused, view_refused, book_cut, count_less, was_account, same_account, other_account, as_long}
use Rattle.partition.proofs.PartsAtCut.{same_others, same_tenants}
use Rattle.partition.proofs.book.Book.cut.Goals as goal
use Rattle.partition.proofs.book.Book.cut.Goals.{After-index_mut-journal, After-end_epoch}

there : (c : After-index_mut-journal) → c.args.tenant < length (map account_of c.self.inside.journals.items)
there c = subst (λ (xs : List Account). c.args.tenant < length xs) (sym c.self.view_is) c.requires

pub index_mut-lasts-requires : goal.index_mut-lasts-requires
index_mut-lasts-requires c =
    let b = c.self.inside in
    let at = (goal.at.index_mut-lasts-requires c).After-index_mut-journal in
    let within = table_within b.shelf b.journals.items b.lasts.items b.of_seats b.of_collector c.args.tenant c.self.invariant c.index_mut-journal.result.now (there at) c.index_mut-journal.ensures.value in
    omega (arith, within, b.lasts.ok.0)

pub end_epoch-requires : goal.end_epoch-requires
end_epoch-requires c =
    let b = c.self.inside in
    let at = (goal.at.end_epoch-requires c).After-index_mut-journal in
    record {
      kept = kept_read b.shelf b.journals.items b.lasts.items b.of_seats b.of_collector c.args.tenant c.self.invariant c.index_mut-journal.result.now (there at) c.index_mut-journal.ensures.value c.index_mut-lasts.result.now c.index_mut-lasts.ensures.value;
      counted = counted_read b.shelf b.journals.items b.lasts.items b.of_seats b.of_collector c.args.tenant c.self.invariant c.index_mut-journal.result.now (there at) c.index_mut-journal.ensures.value;
    }

changes : (c : After-end_epoch) → Changes c.self.inside.shelf c.end_epoch.new.shelf c.self.inside.journals.items c.self.inside.lasts.items c.args.tenant c.index_mut-journal.result.now c.end_epoch.new.journal c.end_epoch.new.lasts
changes c =
    let b = c.self.inside in
    let inside : c.args.tenant < length (map account_of b.journals.items) = subst (λ (xs : List Account). c.args.tenant < length xs) (sym c.self.view_is) c.requires in
    let read = c.index_mut-journal.ensures.value in
    record {
      was = journal_read b.shelf b.journals.items b.lasts.items b.of_seats b.of_collector c.args.tenant c.self.invariant c.index_mut-journal.result.now inside read;
      within = table_within b.shelf b.journals.items b.lasts.items b.of_seats b.of_collector c.args.tenant c.self.invariant c.index_mut-journal.result.now inside read;
      limits = c.end_epoch.ensures.limits;
      others = same_others b.shelf c.end_epoch.new.shelf c.args.tenant c.end_epoch.ensures.same;
      tenants = same_tenants b.shelf c.end_epoch.new.shelf c.end_epoch.ensures.same;
      kept = c.end_epoch.ensures.whole.kept;
      short = c.end_epoch.ensures.short;
      counted = c.end_epoch.ensures.whole.counted;
    }

-- what the tenant's account says of its counts
past : (c : After-end_epoch) → IsPastAt c.args.self.now c.args.tenant ≡ IsPast (account_of c.index_mut-journal.result.now)
past c =
    let b = c.self.inside in
    let inside : c.args.tenant < length (map account_of b.journals.items) = subst (λ (xs : List Account). c.args.tenant < length xs) (sym c.self.view_is) c.requires in
    ap (λ (xs : List Account). IsPastAt xs c.args.tenant) (sym c.self.view_is)
    ∙ past_read b.shelf b.journals.items b.lasts.items b.of_seats b.of_collector c.args.tenant c.self.invariant c.index_mut-journal.result.now inside c.index_mut-journal.ensures.value

pub invariant_of-self : goal.invariant_of-self
invariant_of-self c =
    let b = c.self.inside in
    let at = (goal.at.invariant_of-self c).After-end_epoch in
    book_refused b.shelf c.end_epoch.new.shelf b.journals.items b.lasts.items c.args.tenant c.index_mut-journal.result.now c.end_epoch.new.journal c.end_epoch.new.lasts (changes at)
    (ap (λ (a : Account). a.start) c.in_err-epoch.ensures.unchanged) (ap (λ (a : Account). a.events) c.in_err-epoch.ensures.unchanged) b.of_seats b.of_collector c.self.invariant

pub returns-in_err-epoch-clause-past : goal.returns-in_err-epoch-clause-past
returns-in_err-epoch-clause-past c =
    let at = (goal.at.returns-in_err-epoch-clause-past c).After-end_epoch in
    rw (past at, err_is c.from_residual.result _ c.from_residual.ensures.1) c.in_err-epoch.ensures.past

pub returns-in_err-epoch-clause-unchanged : goal.returns-in_err-epoch-clause-unchanged
returns-in_err-epoch-clause-unchanged c =
    let b = c.self.inside in
    let at = (goal.at.returns-in_err-epoch-clause-unchanged c).After-end_epoch in
    OnErr-always _ (view_refused b.shelf c.end_epoch.new.shelf b.journals.items b.lasts.items c.args.tenant c.index_mut-journal.result.now c.end_epoch.new.journal c.end_epoch.new.lasts (changes at)
    (ap (λ (a : Account). a.start) c.in_err-epoch.ensures.unchanged) (ap (λ (a : Account). a.events) c.in_err-epoch.ensures.unchanged) ∙ c.self.view_is)

pub overflow_sub-self : goal.overflow_sub-self
overflow_sub-self c =
    let b = c.self.inside in
    let at = (goal.at.overflow_sub-self c).After-end_epoch in
    let j = c.index_mut-journal.result.now in
    let less = count_less b.shelf c.end_epoch.new.shelf b.journals.items b.lasts.items c.args.tenant j c.end_epoch.new.journal c.end_epoch.new.lasts (changes at) c.in_ok-epoch.ensures.ended.blank is_of_seat in
    let counted : c.of_seats.result ≡ count_by is_of_seat j.events.items = c.of_seats.ensures ∙ ap (count_by is_of_seat) c.in_ok-epoch.ensures.ended.events in
    omega (arith, less, counted, c.self.invariant.seats)

pub overflow_sub-self-2 : goal.overflow_sub-self-2
overflow_sub-self-2 c =
    let b = c.self.inside in
    let at = (goal.at.overflow_sub-self-2 c).After-end_epoch in
    let j = c.index_mut-journal.result.now in
    let less = count_less b.shelf c.end_epoch.new.shelf b.journals.items b.lasts.items c.args.tenant j c.end_epoch.new.journal c.end_epoch.new.lasts (changes at) c.in_ok-epoch.ensures.ended.blank is_of_collector in
    let counted : c.of_collector.result ≡ count_by is_of_collector j.events.items = c.of_collector.ensures ∙ ap (count_by is_of_collector) c.in_ok-epoch.ensures.ended.events in
    omega (arith, less, counted, c.self.invariant.collector)

pub invariant_of-self-2 : goal.invariant_of-self-2
invariant_of-self-2 c =
    let b = c.self.inside in
    let at = (goal.at.invariant_of-self-2 c).After-end_epoch in
    let j = c.index_mut-journal.result.now in
    let seats : c.of_seats.result ≡ count_by is_of_seat j.events.items = c.of_seats.ensures ∙ ap (count_by is_of_seat) c.in_ok-epoch.ensures.ended.events in
    let collector : c.of_collector.result ≡ count_by is_of_collector j.events.items = c.of_collector.ensures ∙ ap (count_by is_of_collector) c.in_ok-epoch.ensures.ended.events in
    book_cut b.shelf c.end_epoch.new.shelf b.journals.items b.lasts.items c.args.tenant j c.end_epoch.new.journal c.end_epoch.new.lasts (changes at) c.in_ok-epoch.ensures.ended.blank b.of_seats b.of_collector _ _ c.self.invariant
    (ap (λ n. b.of_seats - n) seats) (ap (λ n. b.of_collector - n) collector)

some_is : {x y : Account} → Some x ≡ Some y → x ≡ y
some_is e = cc

pub returns-clause-cut : goal.returns-clause-cut
returns-clause-cut c =
    let b = c.self.inside in
    let at = (goal.at.returns-clause-cut c).After-end_epoch in
    let j = c.index_mut-journal.result.now in
    let was = was_account b.shelf c.end_epoch.new.shelf b.journals.items b.lasts.items c.args.tenant j c.end_epoch.new.journal c.end_epoch.new.lasts (changes at) in
    let begun = c.in_ok-epoch.ensures.ended.begun in
    rw (← c.self.view_is) (record {
      given = λ account is.
          let same = some_is (sym was ∙ is) in
          (c.in_ok-epoch.ensures.ended.number ∙ ap (λ (a : Account). a.start.number) same, c.in_ok-epoch.ensures.ended.base ∙ ap (λ (a : Account). a.start.base) same, c.in_ok-epoch.ensures.ended.events ∙ ap (λ (a : Account). a.events) same);
      begun = λ account is.
          subst (λ (a : Account). (base : Frozen) × IsEnd a.start.base a.events base × (slice_get (map account_of (set b.journals.items c.args.tenant c.end_epoch.new.journal)) c.args.tenant ≡ Some (next_account a base))) (some_is (sym was ∙ is))
          (begun.0, begun.1, same_account b.shelf c.end_epoch.new.shelf b.journals.items b.lasts.items c.args.tenant j c.end_epoch.new.journal c.end_epoch.new.lasts (changes at) ∙ ap Some begun.2);
      others = other_account b.shelf c.end_epoch.new.shelf b.journals.items b.lasts.items c.args.tenant j c.end_epoch.new.journal c.end_epoch.new.lasts (changes at);
      tenants = as_long b.shelf c.end_epoch.new.shelf b.journals.items b.lasts.items c.args.tenant j c.end_epoch.new.journal c.end_epoch.new.lasts (changes at);
      sound = c.in_ok-epoch.ensures.ended.sound;
    })

pub returns-clause-past : goal.returns-clause-past
returns-clause-past c =
    let at = (goal.at.returns-clause-past c).After-end_epoch in
    rw (past at) c.in_ok-epoch.ensures.past
