use Rattle.std.proofs.Common.{◌≡◌, ◌≤◌, ◌+◌, ◌∙◌, ℕ, List, map, ap, sym, subst, inr}
use Rattle.std.proofs.lemmas.Simd.{map-map}
use Rattle.std.specs.Arc.{arc_value}
use Rattle.stamps.specs.declared.bounds.Limits.{Limits}
use Rattle.partition.specs.Accounts.{Account, account_of}
use Rattle.partition.specs.declared.journal.Journal.{Journal}
use Rattle.history.specs.Entries.{count}
use Rattle.shard.specs.Journals.{AreOf}
use Rattle.traced_book.specs.Traced.{AreTraced}
use Rattle.hub.proofs.closing.take_out.Goals as goal

-- so many calls of the book's partition were seen
pub into_book-requires : goal.into_book-requires
into_book-requires g c =
    let P : ℕ → Type 0 = λ n. c.args.calls ≤ count (n + 1) c.args.seen.now in
    record { calls = subst P (sym (c.in-Some.ensures.partition ∙ c.requires.shard.partition)) c.requires.calls }

-- the journals are those of this partition, and of each tenant there is one
pub returns-then-are_under-clause-book : goal.returns-then-are_under-clause-book
returns-then-are_under-clause-book g c =
    let config = c.args.config.now in
    let journals = c.into_journals-journals.result.0.items in
    let e = c.into_journals-journals.ensures in
    let its = (arc_value c.args.shard).config in
    let whole = c.in-Ok.whole in
    let accounts_are = c.in-Ok.ensures.whole.0 in
    let P : ℕ → Type 0 = λ n. ∥ AreOf n its.partition whole ∥₁ in
    let Q : ℕ → Type 0 = λ n. ∥ AreOf config.parts n whole ∥₁ in
    let R : List Account → Type 0 = λ accounts. ∥ AreOf config.parts c.args.partition accounts ∥₁ in
    let S : List Account → Type 0 = λ accounts. ∥ AreOf its.parts its.partition accounts ∥₁ in
    let limits_of : List Journal → List Limits = λ js. map (λ (j : Journal). j.limits) js in
    let under : limits_of journals ≡ config.limits.items =
    ap limits_of (sym c.as_slice.ensures.value) ∙ c.are_under.ensures c.if-are_under.true ∙ c.as_slice-in-Ok.ensures.value in
    record {
      whole = inr (record {
        limits = map-map (λ (a : Account). a.limits) account_of journals ∙ under;
        of_partition = subst R (sym e.journals) (subst Q c.requires.shard.partition (subst P c.requires.shard.parts (subst S (sym accounts_are) c.in-Some.ensures.journals)));
      });
      sound = rw e.journals e.sound;
      of_seats = rw e.journals e.seats;
      of_collector = rw e.journals e.collector;
    }

-- they have all calls that were seen
pub returns-then-are_under-clause-traced : goal.returns-then-are_under-clause-traced
returns-then-are_under-clause-traced g c =
    let P : ℕ → Type 0 = λ n. AreTraced c.args.seen.now n c.in-Ok.whole in
    rw c.into_journals-journals.ensures.journals (subst P (c.in-Some.ensures.partition ∙ c.requires.shard.partition) c.in-Ok.ensures.whole.1)
