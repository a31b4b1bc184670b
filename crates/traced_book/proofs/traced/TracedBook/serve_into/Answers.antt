use Rattle.std.proofs.Common.{◌≡◌, ◌∙◌, ◌<◌, ◌+◌, ℕ, List, length, ap, sym, subst, arith}
use Rattle.std.specs.Prelude.{IsSomeAnd, slice_get}
use mathlib.Core.List.{IsPrefix}
use Rattle.partition.specs.Accounts.{Account}
use Rattle.history.specs.declared.entry.HistoryEntry.{HistoryEntry}
use Rattle.history.specs.declared.entry.HistoryEntry.TheVariants.{Served}
use Rattle.history.specs.declared.entry.ServedCall.{ServedCall}
use Rattle.history.specs.Entries.{count, StandsBehind}
use Rattle.history.specs.Legal.{IsLegal}
use Rattle.history.specs.Rules.{IsAdded}
use Rattle.history.proofs.Counts.{equal_test}
use Rattle.history.proofs.Servings.{added_count}
use Rattle.traced_book.specs.declared.keeping.Keeping.{Keeping}
use Rattle.traced_book.specs.Entering.{HasEntered}
use Rattle.traced_book.specs.Kept.{accounts_in, has_journals}
use Rattle.traced_book.specs.Traced.{Tracing}
use Rattle.traced_book.proofs.Tracing.{IsServed, added_later, few_places, served_told, served_traced}
use Rattle.traced_book.proofs.traced.TracedBook.serve_into.Given.{Over}
use Rattle.traced_book.proofs.traced.TracedBook.serve_into.Goals as goal
use Rattle.traced_book.proofs.traced.TracedBook.serve_into.Goals.{Joined-self, in-Journals+in_ok-place-in-Journals, in-CellsAlone+in_ok-place-in-CellsAlone}

-- fewer calls were served than a word may have entries
pub serve_admitted-requires-in-CellsAlone-clause-few : goal.serve_admitted-requires-in-CellsAlone-clause-few
serve_admitted-requires-in-CellsAlone-clause-few g c = λ account is.
    let b = c.self.inside in
    let C : ℕ → Type 0 = λ n. count n b.front ≡ b.entries in
    let its = ap (λ (k : Keeping). slice_get (accounts_in k) c.args.tenant) c.in-CellsAlone.is ∙ is in
    omega (arith, few_places b.front b.partition c.args.tenant account (c.self.invariant.0 c.args.tenant account its), subst C c.self.invariant.2 c.self.invariant.1, c.self.invariant.4)

-- with journals or without
served : (g : Over) (c : Joined-self g)
    → IsServed (has_journals c.self.inside.kept) (accounts_in c.self.inside.kept) (accounts_in c.match-self.self-inside.1.1.0) c.args.tenant c.args.caller.seat c.args.caller.number c.args.call.now
    c.match-self.reply c.match-self.place
    (HasEntered c.self.inside.tally.key c.self.inside.entries
    (record { partition = c.self.inside.partition; tenant = c.args.tenant; seat = c.args.caller.seat; number = c.args.caller.number; call = c.args.call }) c.self.inside.front c.args.evidence.now c.match-self.entering.now)
served g c = elim c.match-self.branch [
  | in-Journals+in_ok-place-in-Journals w ↦
      let e = w.in_ok-place-in-Journals.ensures in
      rw (w.reply-is, w.entering-is, w.place-is, w.self-inside-is, w.in-Journals.is) (record { taken = e.enters.entered; told = e.enters.reply; place = e.enters.place; admitted = e.admitted })
  | in-CellsAlone+in_ok-place-in-CellsAlone w ↦
      let e = w.in_ok-place-in-CellsAlone.ensures in
      rw (w.reply-is, w.entering-is, w.place-is, w.self-inside-is, w.in-CellsAlone.is) (record { taken = e.takes.taken; told = e.takes.reply; place = e.takes.place; admitted = e.admitted })
]

-- the call was added behind what was seen
pub invariant_of-self-2 : goal.invariant_of-self-2
invariant_of-self-2 g c =
    let its = served g (goal.at.invariant_of-self-2 g c).Joined-self in
    let b = c.self.inside in
    let s : ServedCall = record { partition = b.partition; tenant = c.args.tenant; seat = c.args.caller.seat; number = c.args.caller.number; call = c.args.call.now } in
    let now = c.match-self.entering.now in
    let key : b.tally.key ≡ b.partition + 1 = c.self.invariant.2 in
    let legal : IsLegal b.front = subst IsLegal c.again.ensures.same c.again.ensures.legal in
    let C : ℕ → Type 0 = λ n. count n b.front ≡ b.entries in
    let A : ℕ → Type 0 = λ n. IsAdded n b.entries (Served s) b.front now in
    let T : List Account → Type 0 = λ accounts. c.args.tenant < length accounts in
    let there : T (accounts_in b.kept) = subst T (sym (ap (λ (t : Tracing). t.accounts) c.self.view_is)) c.requires.tenant in
    let added : A b.tally.key = its.admitted.added in (
      served_traced b.front now c.args.evidence.now b.partition c.args.tenant b.entries c.args.caller.seat c.args.caller.number c.args.call.now legal (subst C key c.self.invariant.1) (subst A key added)
          (accounts_in b.kept) (accounts_in c.match-self.self-inside.1.1.0) there c.self.invariant.0 (has_journals b.kept) c.match-self.reply its.taken its.told,
      added_count b.tally.key b.entries (Served s) b.front now (equal_test (b.partition + 1) b.tally.key (sym key)) added,
      c.self.invariant.2,
      c.self.invariant.3,
      omega (arith, its.admitted.few),
    )

pub returns-clause-served : goal.returns-clause-served
returns-clause-served g c =
    let its = served g (goal.at.returns-clause-served g c).Joined-self in
    let b = c.self.inside in
    let s : ℕ → ServedCall = λ p. record { partition = p; tenant = c.args.tenant; seat = c.args.caller.seat; number = c.args.caller.number; call = c.args.call.now } in
    let now = c.match-self.entering.now in
    let place = c.match-self.place in
    let reply = c.match-self.reply in
    let key : b.tally.key ≡ b.partition + 1 = c.self.invariant.2 in
    let legal : IsLegal b.front = subst IsLegal c.again.ensures.same c.again.ensures.legal in
    let C : ℕ → Type 0 = λ n. count n b.front ≡ b.entries in
    let A : ℕ → Type 0 = λ n. IsAdded n b.entries (Served (s b.partition)) b.front now in
    let T : List Account → Type 0 = λ accounts. c.args.tenant < length accounts in
    let there : T (accounts_in b.kept) = subst T (sym (ap (λ (t : Tracing). t.accounts) c.self.view_is)) c.requires.tenant in
    let added : A b.tally.key = its.admitted.added in
    let told : IsSomeAnd reply (λ r. StandsBehind c.args.evidence.now now (s b.partition) place r) =
    served_told b.front now c.args.evidence.now b.partition c.args.tenant b.entries c.args.caller.seat c.args.caller.number c.args.call.now legal (subst C key c.self.invariant.1) (subst A key added)
    (accounts_in b.kept) (accounts_in c.match-self.self-inside.1.1.0) there c.self.invariant.0 place reply its.admitted.behind its.place its.told in
    let P : List HistoryEntry → Type 0 = λ seen. IsSomeAnd reply (λ r. StandsBehind c.args.evidence.now seen (s b.partition) place r) in
    let Q : ℕ → Type 0 = λ p. IsSomeAnd reply (λ r. StandsBehind c.args.evidence.now c.again-2.result (s p) place r) in
    subst Q (ap (λ (t : Tracing). t.partition) c.self.view_is) (subst P (sym c.again-2.ensures.same) told)

pub returns-clause-later : goal.returns-clause-later
returns-clause-later g c =
    let its = served g (goal.at.returns-clause-later g c).Joined-self in
    let b = c.self.inside in
    let s : ServedCall = record { partition = b.partition; tenant = c.args.tenant; seat = c.args.caller.seat; number = c.args.caller.number; call = c.args.call.now } in
    let now = c.match-self.entering.now in
    let P : List HistoryEntry → Type 0 = λ seen. IsPrefix seen now in
    subst P (ap (λ (t : Tracing). t.seen) c.self.view_is) (added_later b.front now b.tally.key b.entries (Served s) its.admitted.added)
