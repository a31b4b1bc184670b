use Rattle.std.proofs.Common.{◌≡◌, ◌+◌, ◌==◌, ℕ, [], ◌∷◌, refl, true, sym, ◌∙◌, ap, subst, arith, MatchBool}
use Rattle.std.proofs.lemmas.Bool.Decides.{nat_tests}
use Rattle.logbook.specs.Pages.{nib, may_make, may_write, inked}
use Rattle.plain_store.specs.Words.{◌∈◌}
use Rattle.plain_store.proofs.Members.{in_filter}
use Rattle.history.specs.declared.entry.HistoryEntry.{HistoryEntry}
use Rattle.history.specs.declared.entry.HistoryEntry.TheVariants.{Joined}
use Rattle.history.specs.declared.entry.JoinedClient.{JoinedClient}
use Rattle.history.specs.Entries.{is_of, own, count}
use Rattle.history.specs.Legal.{IsLegal, MayJoin, first_client}
use Rattle.history.specs.Rules.{arrived}
use Rattle.history.proofs.Lists.{prefix_has}
use Rattle.history.proofs.Steps.{joins_moves, arrives_moves}
use Rattle.history.proofs.front.Front.join.Goals as goal

pub compare_exchange-found-requires : goal.compare_exchange-found-requires
compare_exchange-found-requires g c =
    let word = c.args.register.now.word_is in
    let offer = c.plain-offer.ensures in
    let pen = c.no_pen-pen.ensures in
    let log = c.self.inside.seen.log in
    let book = c.self.invariant.0 ∙ sym (ap (λ w. w.book) word) in
    let counted : count 0 log ≡ c.args.joined = rw c.self.view_is c.requires.takes.counted in
    let member : JoinedClient = record { word = c.args.joined + first_client; tenant = c.args.tenant; client = c.args.client } in
    let new : (other : JoinedClient) → Joined other ∈ log → other.tenant ≡ c.args.tenant → other.client ≡ c.args.client → ⊥ = rw c.self.view_is c.requires.new in
    let may : MayJoin (own 0 log) member = record {
      word = omega (arith, counted);
      new = λ other has tenant client. new other (in_filter (is_of 0) log (Joined other) has).0 tenant client;
    } in (
      ap (λ w. w.tracked) word,
      book,
      pen.0 ∙ book,
      offer.0,
      rw (ap (λ w. w.key) word, c.requires.register, pen.1, offer.1, offer.3) (joins_moves log member c.args.joined counted ∣ may ∣₁ c.self.invariant.1),
    )

pub compare_exchange-found-requires-2 : goal.compare_exchange-found-requires-2
compare_exchange-found-requires-2 g c =
    let word = c.args.register.now.word_is in
    let offer = c.plain-offer-2.ensures in
    let pen = c.no_pen-pen.ensures in
    let one = c.compare_exchange-found.ensures in
    let made = c.tracked-word.ensures in
    let book = c.self.invariant.0 ∙ sym (ap (λ w. w.book) word) in
    let log = c.compare_exchange-found.new.seen.log in
    let is : (c.compare_exchange-found.result == c.args.joined) ≡ true = grind (arith, nat_tests, c.if-found-joined.false) in
    let P = (c.compare_exchange-found.new.pen.nib ≡ nib may_make (first_client + c.args.joined) 0) × (c.plain-offer.result.ask ∈ log) × IsLegal log in
    let told : P = subst (λ b. MatchBool b P (IsLegal log)) is one.7 in
    let nib_is : c.tracked-word.new.pen.nib ≡ nib may_write (c.args.joined + first_client) 1 =
    made.2 ∙ ap (λ p. inked p 1) told.0 ∙ ap (λ (n : ℕ). nib may_write n 1) (omega arith) in (
      ap (λ w. w.tracked) word,
      one.0 ∙ book,
      made.1 ∙ (one.5 ∙ (pen.0 ∙ book)),
      offer.0,
      rw (ap (λ w. w.key) word, c.requires.register, nib_is, offer.1, offer.3) (arrives_moves log (c.args.joined + first_client) (c.args.joined + 1)),
    )

-- it has joined, and then come home
pub returns-clause-came : goal.returns-clause-came
returns-clause-came g c =
    let one = c.compare_exchange-found.ensures in
    let log = c.compare_exchange-found.new.seen.log in
    let is : (c.compare_exchange-found.result == c.args.joined) ≡ true = grind (arith, nat_tests, c.if-found-joined.false) in
    let P = (c.compare_exchange-found.new.pen.nib ≡ nib may_make (first_client + c.args.joined) 0) × (c.plain-offer.result.ask ∈ log) × IsLegal log in
    let told : P = subst (λ b. MatchBool b P (IsLegal log)) is one.7 in
    let member : JoinedClient = record { word = c.args.joined + first_client; tenant = c.args.tenant; client = c.args.client } in
    let has : Joined member ∈ log = subst (λ (e : HistoryEntry). e ∈ log) c.plain-offer.ensures.1 told.1 in
    let now = c.compare_exchange-found-2.new.seen.log in
    let home = c.compare_exchange-found-2.ensures.7 in
    let P : HistoryEntry → Type 0 = λ e. own (arrived e) now ≡ e ∷ [] in
    record {
      key = refl;
      joined = prefix_has log now (Joined member) c.compare_exchange-found-2.ensures.6 has;
      alone = subst P c.plain-offer-2.ensures.1 home.0;
      counted = home.1 ∙ c.if-found-joined-2.false;
    }
