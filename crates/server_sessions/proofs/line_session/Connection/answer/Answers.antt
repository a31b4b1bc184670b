use Rattle.std.proofs.Common.{rules, Some, refl, inl, inr, subst, sym}
use Rattle.plain_store.specs.declared.refusal.Refusal.TheVariants.{NoSession}
use Rattle.hub.specs.Seats.{SeatView}
use Rattle.server_sessions.proofs.InTurn.{seat_answers}
use Rattle.server_sessions.proofs.ToldOf.{Tells-cause, Tells-note, answered_by, left_by}
use Rattle.server_sessions.proofs.Unread.{unread_answered, unread_goes_on, unread_line, unread_told}
use Rattle.server_sessions.specs.Answering.{refused_as}
use Rattle.server_sessions.specs.Said.{Said, Shows, said_line}
use Rattle.server_sessions.specs.SeatAnswers.{IsDrained}
use Rattle.server_sessions.specs.Telling.{Tells}
use Rattle.server_sessions.proofs.line_session.Connection.answer.Goals as goal
use Rattle.server_sessions.proofs.line_session.Connection.answer.Goals.{then-is_answered, else-is_answered}

pub returns-in-Err-clause-answered : goal.returns-in-Err-clause-answered
returns-in-Err-clause-answered g c =
    let r = c.answer_unread.result in
    let options = c.args.self.now.terms.options in
    let hub = c.args.hub.now in
    let names = c.args.self.now.terms.names.now in
    let refusal = c.in-Err.refusal in
    let first = c.args.self.now.seat in
    let last = c.answer_unread.new.self.seat in
    let answer = c.answer_unread.new.self.answer in
    unread_line r options hub names c.args.line.now first answer last
    (unread_told r options.newest hub.epoch first last answer (refused_as first refusal) c.answer_unread.ensures.kept.1 c.answer_unread.ensures.answered)
    (unread_answered r options hub names c.args.line.now refusal first last answer c.in-Err.ensures.error c.answer_unread.ensures.kept.1 c.answer_unread.ensures.answered)
    (unread_goes_on r options first c.args.line.now refusal c.in-Err.ensures.bad_line c.answer_unread.ensures.goes_on)

pub returns-then-matches-clause-answered : goal.returns-then-matches-clause-answered
returns-then-matches-clause-answered g c =
    let options = c.args.self.now.terms.options in
    record {
      told = rw c.inform.ensures (Tells-note options.newest c.args.hub.now.epoch c.args.self.now.seat (Shows options.store options.newest));
      line = search rules;
      goes_on = search rules;
    }

pub returns-in-Put-clause-answered : goal.returns-in-Put-clause-answered
returns-in-Put-clause-answered g c = record {
  told = rw c.refuse.ensures (Tells-cause c.args.self.now.terms.options.newest c.args.hub.now.epoch c.args.self.now.seat NoSession);
  line = search rules;
  goes_on = search rules;
}

-- by the seat, which forgets then what it noted
pub returns-in-Some-clause-answered : goal.returns-in-Some-clause-answered
returns-in-Some-clause-answered g c = elim c.if-is_answered.branch [
  | then-is_answered w ↦
      let options = c.args.self.now.terms.options in
      let answered = c.ask_seat-is_answered.ensures.answered w.if-is_answered.true in
      rw w.result-is (record {
        told = subst (λ (said : Said). Tells options.newest c.args.hub.now.epoch c.args.self.now.seat (Some c.drain_seat.new.seat) (said_line said)) (sym answered.1)
            (answered_by options.newest c.args.hub.now.epoch _ c.in-Ok.request c.args.self.now.seat c.in-Some.seat c.drain_seat.new.seat answered.0 c.in-Some.is (c.ask_seat-is_answered.new.seat, answered.2, c.ask_seat-is_answered.ensures.stays.0, c.drain_seat.ensures));
        line = inl (c.in-Ok.request, c.in-Ok.ensures.found, seat_answers options c.args.hub.now c.args.self.now.terms.names.now c.in-Ok.request c.args.self.now.seat c.in-Some.seat c.drain_seat.new.seat c.ask_seat-is_answered.new.answer answered.0 c.in-Some.is answered.1 (c.ask_seat-is_answered.new.seat, answered.2, c.ask_seat-is_answered.ensures.stays.0, c.drain_seat.ensures));
        goes_on = search rules;
      })
  | else-is_answered w ↦ rw w.result-is tt
]

-- or it was a bye
pub returns-in-Some-clause-ended : goal.returns-in-Some-clause-ended
returns-in-Some-clause-ended g c = elim c.if-is_answered.branch [
  | then-is_answered w ↦ rw w.result-is tt
  | else-is_answered w ↦
      let same = c.ask_seat-is_answered.ensures.stays.1 w.if-is_answered.false in
      let drained = subst (λ (s : SeatView). IsDrained c.args.hub.now.epoch s c.drain_seat.new.seat) same.1 c.drain_seat.ensures in
      rw w.result-is (record {
        untold = left_by c.args.self.now.terms.options.newest c.args.hub.now.epoch c.args.self.now.seat c.in-Some.seat c.drain_seat.new.seat c.in-Some.is drained;
        ends = search rules;
        left = inr (c.in-Some.seat, c.drain_seat.new.seat, c.in-Some.is, refl, drained);
      })
]
