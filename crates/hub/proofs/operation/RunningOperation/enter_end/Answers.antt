use Rattle.std.proofs.Common.{◌≡◌, ◌∙◌, [], List, true, false, ap, arith, refl, sym, subst}
use Rattle.std.proofs.lemmas.List.{append-nil}
use Rattle.plain_store.specs.declared.answer.Rows.{Rows}
use Rattle.plain_store.specs.declared.reading.Reading.{Reading}
use Rattle.tenant_sessions.specs.Moves.{moved, answer_of, is_last}
use Rattle.tenant_sessions.specs.Showing.{IfTells}
use Rattle.history.specs.declared.entry.HistoryEntry.{HistoryEntry}
use Rattle.hub.specs.Replies.{AreServed, IsMovedBy, IsToldOf}
use Rattle.hub.specs.Sights.{sight_of}
use Rattle.hub.specs.Seats.{at_seat}
use Rattle.hub.proofs.Entries.{ends-so, follows-told, no-place, told-none, told-some}
use Rattle.tenant_sessions.specs.declared.session.ClientSession.{ClientSession}
use Rattle.hub.proofs.Given.{served-answered}
use Rattle.hub.proofs.Replies.{reads-ended}
use Rattle.hub.proofs.operation.RunningOperation.enter_end.Goals as goal

pub returns-clause-moves : goal.returns-clause-moves
returns-clause-moves g c =
    let before = c.args.self.now in
    let now = c.enter_answer.new.self in
    let entered = c.enter_answer.ensures in
    let answer = c.tell_end.new.answer in
    let Q : List Reading → Type 0 = λ told. (rows : Rows) → answer ≡ at_seat (answer_of (moved c.args.taken.now told) rows) in
    record {
      answered = λ last. entered.answered;
      told = λ rows some last. subst Q c.deref.ensures c.tell_end.ensures.exact rows;
      goes_on = λ going. let both : true ≡ false = sym c.requires.last ∙ going in absurd cc;
      replies = entered.replies;
      room = entered.room;
      ends = λ was. ends-so now.place answer c.tell_end.ensures.ends;
      entered = λ start follows.
          follows-told start _ _ now.entries.items (sym (told-some now.place answer entered.answered))
          (entered.entered start (follows-told start _ _ before.entries.items (told-none before.place c.args.answer.now (sym c.is_some.ensures ∙ c.if-not-is_some.false)) follows));
      read = λ name setup asked start reads moves by.
          let R : List Reading → Type 0 = λ told. IfTells asked (moved c.args.taken.now told) (IsToldOf name setup asked start before.entries.items) in
          let S : List Reading → Type 0 = λ told. IsMovedBy name setup asked start before.entries.items (moved c.args.taken.now told) in
          let T : List Reading → Type 0 = λ told. is_last (moved c.args.taken.now told) ≡ true in
          reads-ended name setup asked start _ now.entries.items _ now.session.running now.place _ (moved c.args.taken.now c.deref.result.now) answer entered.answer (ap (λ (s : ClientSession). s.running) entered.only.session) entered.answered
          c.tell_end.ensures.exact (subst T (sym c.deref.ensures) c.requires.last) reads (subst R (sym c.deref.ensures) moves) (subst S (sym c.deref.ensures) by);
      kept = entered.kept;
      served = λ first last start are.
          let S : List HistoryEntry → Type 0 = λ s. AreServed (sight_of before.name s) first last start now.entries.items in
          subst S (sym entered.only.seen) (served-answered (sight_of before.name before.seen) first last start before.entries.items now.entries.items answer entered.answer are);
    }

-- it was answered before
pub returns-then-not-is_some-clause-moves : goal.returns-then-not-is_some-clause-moves
returns-then-not-is_some-clause-moves g c =
    let before = c.args.self.now in
    let none = sym c.is_some.ensures ∙ c.if-not-is_some.true in
    record {
      answered = λ last. no-place before.place none;
      told = λ rows some last. let both : true ≡ false = sym some ∙ none in absurd cc;
      goes_on = λ going. refl;
      replies = refl;
      room = omega arith;
      ends = λ was. was;
      entered = λ start follows. follows;
      read = λ name setup asked start reads moves by. reads;
      kept = ([], sym (append-nil before.entries.items));
      served = λ first last start are. are;
    }
