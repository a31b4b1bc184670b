use Rattle.std.proofs.Common.{◌≡◌, ◌≢◌, ◌≤◌, ◌+◌, ◌∙◌, ℕ, List, false, ap, sym, subst, inl, inr}
use mathlib.Core.List.{IsPrefix}
use Rattle.partition.specs.Accounts.{Account}
use Rattle.history.specs.declared.entry.HistoryEntry.{HistoryEntry}
use Rattle.history.specs.Entries.{count}
use Rattle.history.specs.Legal.{IsLegal}
use Rattle.history.proofs.Lists.{prefix_join}
use Rattle.traced_book.specs.Kept.{accounts_in}
use Rattle.traced_book.specs.Traced.{AreTraced, Tracing, WereMoreServed}
use Rattle.traced_book.proofs.Tracing.{more_served, other_calls, whole_traced}
use Rattle.traced_book.proofs.traced.TracedBook.into_book.Goals as goal

pub returns-in-Some-clause-whole : goal.returns-in-Some-clause-whole
returns-in-Some-clause-whole g c =
    let b = c.self.inside in
    let kept = accounts_in b.kept in
    let first : IsPrefix c.again-now.result c.look-found.new.self = prefix_join _ _ _ c.learn-2.ensures.this c.look-found.ensures.later in
    let second : IsPrefix c.again.result c.look-found.new.self = prefix_join _ _ _ c.learn-2.ensures.that c.look-found.ensures.later in
    let P : List HistoryEntry → Type 0 = λ l. IsPrefix l c.look-found.new.self in
    let L : List HistoryEntry → Type 0 = λ l. IsLegal l in
    let Q : ℕ → Type 0 = λ n. c.args.calls ≤ count (n + 1) c.args.seen.now in
    let few : Q b.partition = subst Q (sym (ap (λ (t : Tracing). t.partition) c.self.view_is)) c.requires.calls in
    let traced : AreTraced c.args.seen.now b.partition kept =
    whole_traced b.front c.args.seen.now c.look-found.new.self b.partition b.tally.key b.entries c.args.calls c.look-found.result c.self.invariant.2
    (subst P c.again-now.ensures.same first) c.self.invariant.1 c.look-found.ensures.counted kept (subst L c.again-now.ensures.same c.again-now.ensures.legal)
    (subst L c.again.ensures.same c.again.ensures.legal) (subst P c.again.ensures.same second) c.if-entries-calls.false c.if-found-calls.false few c.self.invariant.0 in
    let T : ℕ → Type 0 = λ n. AreTraced c.args.seen.now n kept in
    let U : List Account → Type 0 = λ accounts. AreTraced c.args.seen.now c.args.self.partition accounts in (
      c.in-Some.ensures.book ∙ ap (λ (t : Tracing). t.accounts) c.self.view_is,
      subst U (sym c.in-Some.ensures.book) (subst T (ap (λ (t : Tracing). t.partition) c.self.view_is) traced),
    )

pub returns-then-entries-calls-clause-others : goal.returns-then-entries-calls-clause-others
returns-then-entries-calls-clause-others g c =
    let b = c.self.inside in
    let O : Tracing → Type 0 = λ t. c.args.calls ≢ count (t.partition + 1) t.seen in
    inl (subst O c.self.view_is (other_calls b.front b.partition b.tally.key b.entries c.args.calls c.self.invariant.2 c.self.invariant.1 c.if-entries-calls.true))

pub returns-then-found-calls-clause-others : goal.returns-then-found-calls-clause-others
returns-then-found-calls-clause-others g c =
    let b = c.self.inside in
    let now = c.look-found.new.self in
    let first : IsPrefix c.again-now.result now = prefix_join _ _ _ c.learn-2.ensures.this c.look-found.ensures.later in
    let P : List HistoryEntry → Type 0 = λ l. IsPrefix l now in
    let M : Tracing → Type 0 = λ t. WereMoreServed t.seen now t.partition in
    inr (inl (subst M c.self.view_is
    (more_served b.front c.args.seen.now now b.partition b.tally.key b.entries c.args.calls c.look-found.result c.self.invariant.2
    (subst P c.again-now.ensures.same first) c.self.invariant.1 c.look-found.ensures.counted c.if-entries-calls.false c.if-found-calls.true)))

-- no journals are kept
pub returns-clause-others : goal.returns-clause-others
returns-clause-others g c =
    let J : Tracing → Type 0 = λ t. t.journals ≡ false in
    inr (inr (subst J c.self.view_is (c.into_book.ensures.none c.in-None.is)))
