use Rattle.std.proofs.Common.{◌≡◌, ◌≢◌, ◌≤◌, ◌+◌, ◌∙◌, ℕ, true, false, List, arith, refl, subst, sym}
use Rattle.std.proofs.lemmas.Bool.{eq-eqb, eqb-true}
use mathlib.Core.List.{IsPrefix}
use Rattle.history.specs.declared.entry.HistoryEntry.{HistoryEntry}
use Rattle.history.specs.Entries.{count}
use Rattle.history.specs.Legal.{IsLegal}
use Rattle.history.proofs.Lists.{prefix_join, prefix_of_itself}
use Rattle.traced_book.specs.Kept.{accounts_in}
use Rattle.traced_book.specs.Traced.{AreTraced, Tracing, WereMoreServed}
use Rattle.traced_book.proofs.Tracing.{more_served, whole_traced}
use Rattle.traced_book.proofs.traced.TracedBook.has_all.Goals as goal

pub returns-clause-all : goal.returns-clause-all
returns-clause-all g c = λ yes.
    let b = c.self.inside in
    let now = c.look-found.new.self in
    let found = c.look-found.result in
    let is : found ≡ b.entries = eqb-true found b.entries yes in
    let P : List HistoryEntry → Type 0 = λ l. IsPrefix l now in
    let first : IsPrefix b.front now = subst P c.again-mine.ensures.same (prefix_join _ _ _ c.learn.ensures.that c.look-found.ensures.later) in
    let few : found ≤ count (b.partition + 1) now = subst (λ (k : ℕ). found ≤ count k now) c.self.invariant.2 (omega (arith, c.look-found.ensures.counted)) in
    let traced : AreTraced now b.partition (accounts_in b.kept) =
    whole_traced b.front now now b.partition b.tally.key b.entries found found c.self.invariant.2 first c.self.invariant.1 c.look-found.ensures.counted (accounts_in b.kept)
    (subst IsLegal c.again-mine.ensures.same c.again-mine.ensures.legal) c.look-found.ensures.legal (prefix_of_itself now) (sym is) refl few c.self.invariant.0 in
    let T : Tracing → Type 0 = λ t. AreTraced now t.partition t.accounts in
    subst T c.self.view_is traced

pub returns-clause-others : goal.returns-clause-others
returns-clause-others g c = λ no.
    let b = c.self.inside in
    let now = c.look-found.new.self in
    let P : List HistoryEntry → Type 0 = λ l. IsPrefix l now in
    let first : IsPrefix b.front now = subst P c.again-mine.ensures.same (prefix_join _ _ _ c.learn.ensures.that c.look-found.ensures.later) in
    let apart : c.look-found.result ≢ b.entries = λ is. let bad : true ≡ false = sym (eq-eqb c.look-found.result b.entries is) ∙ no in cc in
    let M : Tracing → Type 0 = λ t. WereMoreServed t.seen now t.partition in
    subst M c.self.view_is
    (more_served b.front now now b.partition b.tally.key b.entries b.entries c.look-found.result c.self.invariant.2 first c.self.invariant.1 c.look-found.ensures.counted refl apart)
