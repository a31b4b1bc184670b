use Rattle.std.proofs.Common.{◌≡◌, ◌<◌, ◌≤◌, ◌^◌, ◌∷◌, ◌++◌, [], ℕ, List, Option, Some, Ok, Err, cond, length, nat_eq, arith, refl, sym, subst, ◌∙◌, ap, map}
use Rattle.std.specs.Prelude.{IsSomeAnd, IsErrOf, ◌↔◌}
use Rattle.std.specs.Option.{option_copied}
use Rattle.plain_store.specs.Words.{Room}
use Rattle.plain_store.specs.Replies.{reply_after}
use Rattle.partition.specs.declared.journal.Journal.{Journal}
use Rattle.partition.specs.Books.{IsKept}
use Rattle.partition.specs.Events.{Event, event, is_reply_to}
use Rattle.partition.specs.Journals.{log_after, last_number, IsLate}
use Rattle.partition.specs.Shelf.{ShelfCells, ServesTenant, OtherCellsKept, tenants}
use Rattle.indexmap.specs.IndexMap.{IndexMap, IsUnique, get}
use Rattle.partition.specs.Accounts.{Account, EpochStart, account_of, epoch_start_of, with_event, is_of_seat, is_of_collector}
use Rattle.partition.proofs.Entering.{err_is, kept_after, kept_still, ok_is_no_err, replies}
use Rattle.partition.proofs.Books.{Known, known, Changes, OnErr-always, book_refused, view_refused, book_entered, entered, count_small}
use Rattle.partition.proofs.Placed.{said, none-entered}
use Rattle.partition.proofs.book.Book.serve_admitted.Given.{Over}
use Rattle.partition.proofs.book.Book.serve_admitted.Goals as goal
use Rattle.partition.proofs.book.Book.serve_admitted.Goals.{After-index_mut-journal, After-index_mut-lasts, After-push_reserved}

-- the tenant's journal before the call
at_journal : (g : Over) (c : After-index_mut-journal g) → Known c.args.self.now c.self.inside.shelf c.self.inside.journals.items c.self.inside.lasts.items c.args.tenant c.index_mut-journal.result.now
at_journal g c = let b = c.self.inside in known b.shelf b.journals.items b.lasts.items b.of_seats b.of_collector c.self.view_is c.args.tenant c.requires c.self.invariant c.index_mut-journal.result.now c.index_mut-journal.ensures.value

at_lasts : (g : Over) (c : After-index_mut-lasts g) → Known c.args.self.now c.self.inside.shelf c.self.inside.journals.items c.self.inside.lasts.items c.args.tenant c.index_mut-journal.result.now
at_lasts g c = let b = c.self.inside in known b.shelf b.journals.items b.lasts.items b.of_seats b.of_collector c.self.view_is c.args.tenant c.requires c.self.invariant c.index_mut-journal.result.now c.index_mut-journal.ensures.value

-- and its cell, journal and table
kept_at : (g : Over) (c : After-index_mut-lasts g) → IsKept c.self.inside.shelf c.args.tenant (account_of c.index_mut-journal.result.now) c.index_mut-lasts.result.now
kept_at g c = (at_lasts g c).kept c.index_mut-lasts.result.now c.index_mut-lasts.ensures.value

pub index_mut-lasts-requires : goal.index_mut-lasts-requires
index_mut-lasts-requires g c =
    let within = (at_journal g (goal.at.index_mut-lasts-requires g c).After-index_mut-journal).within in omega (arith, within, c.self.inside.lasts.ok.0)

pub overflow_add-place : goal.overflow_add-place
overflow_add-place g c =
    let counted = (at_lasts g (goal.at.overflow_add-place g c).After-index_mut-lasts).counted.0 in omega (arith, counted, c.len.ensures.few)

pub note-requires : goal.note-requires
note-requires g c = (kept_at g (goal.at.note-requires g c).After-index_mut-lasts).table.unique

-- a late number is not above the last one of the journal
late_of : (c : List Event) (seat number : ℕ) (last : Option ℕ) (P : Type 0) → last ≡ last_number seat c → (P ↔ IsSomeAnd last (λ l. number ≤ l)) → P ↔ IsLate c seat number
late_of events seat number last P is late = subst (λ o. P ↔ IsSomeAnd o (λ l. number ≤ l)) is late

module _ {S : Type 0} {book : List Account} (cells : ShelfCells) (journals : List Journal) (tables : List (IndexMap ℕ ℕ S)) (tenant : ℕ) (j j' : Journal) (lasts lasts' : IndexMap ℕ ℕ S) (k : Known book cells journals tables tenant j)
    (kept : IsKept cells tenant (account_of j) lasts) (limits : j'.limits ≡ j.limits) (start : epoch_start_of j' ≡ epoch_start_of j) (unique : IsUnique nat_eq lasts') where
  -- the call was refused
  still : j'.events.items ≡ j.events.items → length j.events.items < 2 ^ 63 → ((seat : ℕ) → get nat_eq lasts' seat ≡ get nat_eq lasts seat) → Changes cells cells journals tables tenant j j' lasts'
  still events few same =
      let is : account_of j' ≡ account_of j = λ i. record { limits = limits i; start = start i; events = events i } in
      record {
        was = k.was;
        within = k.within;
        limits = limits;
        others = λ other apart. (refl, λ history stands. stands);
        tenants = refl;
        kept = subst (λ (a : Account). IsKept cells tenant a lasts') (sym is) (kept_still cells tenant (account_of j) lasts lasts' kept same unique);
        short = omega (arith, few, ap (λ (es : List Event). length es) events);
        counted = (rw (ap (λ (t : EpochStart). t.before) start) k.counted.0, rw (ap (λ (t : EpochStart). t.number) start) k.counted.1);
      }

  -- its event was entered
  more : (new : ShelfCells) (e : Event) → j'.events.items ≡ j.events.items ++ e ∷ [] → length j'.events.items < 2 ^ 63 → ServesTenant cells new tenant e.call e.reply → OtherCellsKept cells new tenant → tenants new ≡ tenants cells
      → (IsSomeAnd (get nat_eq lasts e.seat) (λ l. e.number ≤ l) → ⊥) → ((seat : ℕ) → get nat_eq lasts' seat ≡ cond (nat_eq e.seat seat) (Some e.number) (get nat_eq lasts seat)) → Changes cells new journals tables tenant j j' lasts'
  more new e events few serves others as_many on_time noted =
      let is : account_of j' ≡ with_event (account_of j) e = λ i. record { limits = limits i; start = start i; events = events i } in
      record {
        was = k.was;
        within = k.within;
        limits = limits;
        others = others;
        tenants = as_many;
        kept = subst (λ (a : Account). IsKept new tenant a lasts') (sym is) (kept_after cells new tenant (account_of j) lasts lasts' e kept serves on_time noted unique);
        short = few;
        counted = (rw (ap (λ (t : EpochStart). t.before) start) k.counted.0, rw (ap (λ (t : EpochStart). t.number) start) k.counted.1);
      }

-- what is refused is the same, whatever else would be answered
ok_late : {A B E : Type 0} (x : A) (y : B) (e : E) (P : Type 0) → (IsErrOf (Ok x) e ↔ P) → IsErrOf (Ok y) e ↔ P
ok_late x y e P late = (λ is. absurd (ok_is_no_err y e is), λ p. absurd (ok_is_no_err x e (late.1 p)))

err_tells : (A : Type 0) {E : Type 0} (f e : E) → IsErrOf {T = A} (Err f) e → f ≡ e
err_tells A f e is = cc

err_late : (A B : Type 0) {E : Type 0} (f e : E) (P : Type 0) → (IsErrOf {T = A} (Err f) e ↔ P) → IsErrOf {T = B} (Err f) e ↔ P
err_late A B f e P late = (λ is. late.0 (ap Err (err_tells B f e is)), λ p. ap Err (err_tells A f e (late.1 p)))

pub invariant_of-self : goal.invariant_of-self
invariant_of-self g c =
    let b = c.self.inside in
    let at = (goal.at.invariant_of-self g c).After-index_mut-lasts in
    let j = c.index_mut-journal.result.now in
    book_refused b.shelf b.shelf b.journals.items b.lasts.items c.args.tenant j (record j { events = c.note.new.events }) c.note.new.lasts
    (still b.shelf b.journals.items b.lasts.items c.args.tenant j (record j { events = c.note.new.events }) c.index_mut-lasts.result.now c.note.new.lasts (at_lasts g at) (kept_at g at) refl refl c.note.ensures.unique c.note.ensures.events c.len.ensures.few c.in_err-note.ensures.others)
    refl c.note.ensures.events b.of_seats b.of_collector c.self.invariant

pub returns-in_err-note-clause-late : goal.returns-in_err-note-clause-late
returns-in_err-note-clause-late g c =
    let at = (goal.at.returns-in_err-note-clause-late g c).After-index_mut-lasts in
    rw ((at_lasts g at).events, err_is c.from_residual.result _ c.from_residual.ensures.1) (err_late _ _ _ _ _ (late_of c.index_mut-journal.result.now.events.items c.args.caller.seat _ _ _ ((kept_at g at).table.lasts c.args.caller.seat) c.in_err-note.ensures.late))

pub returns-in_err-note-clause-enters : goal.returns-in_err-note-clause-enters
returns-in_err-note-clause-enters g c =
    let b = c.self.inside in
    let at = (goal.at.returns-in_err-note-clause-enters g c).After-index_mut-lasts in
    let j = c.index_mut-journal.result.now in
    none-entered _ _ _ _ _ _ _ _ c.from_residual.result _
    (err_is c.from_residual.result _ c.from_residual.ensures.1)
    (view_refused b.shelf b.shelf b.journals.items b.lasts.items c.args.tenant j (record j { events = c.note.new.events }) c.note.new.lasts
    (still b.shelf b.journals.items b.lasts.items c.args.tenant j (record j { events = c.note.new.events }) c.index_mut-lasts.result.now c.note.new.lasts (at_lasts g at) (kept_at g at) refl refl c.note.ensures.unique c.note.ensures.events c.len.ensures.few c.in_err-note.ensures.others)
    refl c.note.ensures.events ∙ c.self.view_is)

pub returns-in_err-note-clause-unwritten : goal.returns-in_err-note-clause-unwritten
returns-in_err-note-clause-unwritten g c = OnErr-always c.from_residual.result refl

pub push_reserved-requires-clause-fits : goal.push_reserved-requires-clause-fits
push_reserved-requires-clause-fits g c =
    let kept = kept_at g (goal.at.push_reserved-requires-clause-fits g c).After-index_mut-lasts in
    let log = kept.has_log in
    let placed = sym c.as_ref.ensures.value ∙ ap option_copied c.unwrap-told.ensures in
    let serves = said _ c.apply_into.new.reply c.unwrap-told.result.now placed c.apply_into.ensures.serves in
    ap (is_reply_to c.args.call.now) (serves.reply (log_after c.index_mut-journal.result.now.events.items ++ log.0) (kept.stands log.0 log.2)) ∙ replies _ _ c.args.call.now

placed : (g : Over) (c : After-push_reserved g) → c.apply_into.new.reply ≡ Some c.unwrap-told.result.now
placed g c = sym c.as_ref.ensures.value ∙ ap option_copied c.unwrap-told.ensures

serves : (g : Over) (c : After-push_reserved g) → ServesTenant c.self.inside.shelf c.apply_into.new.self c.args.tenant c.args.call.now c.unwrap-told.result.now
serves g c = said _ c.apply_into.new.reply c.unwrap-told.result.now (placed g c) c.apply_into.ensures.serves

events : (g : Over) (c : After-push_reserved g) → c.push_reserved.new.self.items ≡ c.index_mut-journal.result.now.events.items ++ event c.args.caller.seat c.args.caller.number c.args.call.now c.unwrap-told.result.now ∷ []
events g c = c.push_reserved.ensures.items ∙ ap (λ (es : List Event). es ++ event c.args.caller.seat c.args.caller.number c.args.call.now c.unwrap-told.result.now ∷ []) c.note.ensures.events

changes : (g : Over) (c : After-push_reserved g) → Known c.args.self.now c.self.inside.shelf c.self.inside.journals.items c.self.inside.lasts.items c.args.tenant c.index_mut-journal.result.now
    → IsKept c.self.inside.shelf c.args.tenant (account_of c.index_mut-journal.result.now) c.index_mut-lasts.result.now
    → Changes c.self.inside.shelf c.apply_into.new.self c.self.inside.journals.items c.self.inside.lasts.items c.args.tenant c.index_mut-journal.result.now (record c.index_mut-journal.result.now { events = c.push_reserved.new.self }) c.note.new.lasts
changes g c k kept =
    let b = c.self.inside in
    let j = c.index_mut-journal.result.now in
    more b.shelf b.journals.items b.lasts.items c.args.tenant j (record j { events = c.push_reserved.new.self }) c.index_mut-lasts.result.now c.note.new.lasts k kept refl refl c.note.ensures.unique
    c.apply_into.new.self (event c.args.caller.seat c.args.caller.number c.args.call.now c.unwrap-told.result.now) (events g c) c.push_reserved.ensures.few (serves g c) c.apply_into.ensures.others c.apply_into.ensures.tenants
    (λ late. ok_is_no_err _ _ (c.in_ok-note.ensures.late.1 late)) c.in_ok-note.ensures.noted

pub count-requires-clause-seats : goal.count-requires-clause-seats
count-requires-clause-seats g c =
    omega (arith, c.self.invariant.seats, count_small is_of_seat (map account_of c.self.inside.journals.items) c.self.invariant.few c.self.invariant.short)

pub count-requires-clause-collector : goal.count-requires-clause-collector
count-requires-clause-collector g c =
    omega (arith, c.self.invariant.collector, count_small is_of_collector (map account_of c.self.inside.journals.items) c.self.invariant.few c.self.invariant.short)

pub invariant_of-self-2 : goal.invariant_of-self-2
invariant_of-self-2 g c =
    let b = c.self.inside in
    let at = (goal.at.invariant_of-self-2 g c).After-index_mut-lasts in
    let after = (goal.at.invariant_of-self-2 g c).After-push_reserved in
    let j = c.index_mut-journal.result.now in
    book_entered b.shelf c.apply_into.new.self b.journals.items b.lasts.items c.args.tenant j (record j { events = c.push_reserved.new.self }) c.note.new.lasts (changes g after (at_lasts g at) (kept_at g at)) refl
    (event c.args.caller.seat c.args.caller.number c.args.call.now c.unwrap-told.result.now) (events g after) b.of_seats b.of_collector _ _ c.self.invariant c.count.ensures.seats c.count.ensures.collector

pub returns-clause-enters : goal.returns-clause-enters
returns-clause-enters g c =
    let b = c.self.inside in
    let at = (goal.at.returns-clause-enters g c).After-index_mut-lasts in
    let after = (goal.at.returns-clause-enters g c).After-push_reserved in
    let j = c.index_mut-journal.result.now in
    let k = at_lasts g at in
    let kept = kept_at g at in
    record {
      entered = rw (← c.self.view_is, placed g after)
          (entered b.shelf c.apply_into.new.self b.journals.items b.lasts.items c.args.tenant j (record j { events = c.push_reserved.new.self }) c.note.new.lasts (changes g after k kept) refl (event c.args.caller.seat c.args.caller.number c.args.call.now c.unwrap-told.result.now) (events g after));
      reply = rw (k.events, k.room, k.base, placed g after)
          (λ log leaves. subst (λ (room : Room). c.unwrap-told.result.now ≡ reply_after room (log_after j.events.items ++ log) c.args.call.now) kept.room ((serves g after).reply (log_after j.events.items ++ log) (kept.stands log leaves)));
      place = rw (k.events, k.before) (omega (arith, c.len.ensures.count));
      unchanged = tt;
    }

pub returns-clause-late : goal.returns-clause-late
returns-clause-late g c =
    let at = (goal.at.returns-clause-late g c).After-index_mut-lasts in
    rw ((at_lasts g at).events) (ok_late _ _ _ _ (late_of c.index_mut-journal.result.now.events.items c.args.caller.seat _ _ _ ((kept_at g at).table.lasts c.args.caller.seat) c.in_ok-note.ensures.late))
