use Rattle.std.proofs.Common.{◌≡◌, ℕ, None, Some, ap, sym, ◌∙◌, subst, rules}
use Rattle.partition.specs.Events.{Event}
use Rattle.settle.specs.Program.{at_place}
use Rattle.settle.specs.Input.{input_of}
use Rattle.settle.specs.Trace.{call_rows}
use Rattle.settle.specs.Fronts.{IsSeatOverAt}
use Rattle.settle.proofs.NextSteps.{some_none, row_for, sent_there}
use Rattle.settle.proofs.progress.Progress.is_unsent.Goals as goal

pub returns-in_default : goal.returns-in_default
returns-in_default c = record {
  over = search rules;
  left = λ trace stands is at. c.in_default.ensures trace stands.noted.replies at.event at.next;
}

pub returns-then-not-is_seat_over : goal.returns-then-not-is_seat_over
returns-then-not-is_seat_over c = record {
  over = search rules;
  left = λ trace stands is at.
      let input = input_of c.args.closed.now c.args.tenant c.args.self.now.replay.limits in
      let same = sent_there input trace c.args.partition c.in-Some.event (c.in-Some.ensures trace stands.noted.replies) at in
      c.is_seat_over.ensures.left trace stands c.if-not-is_seat_over.true
      (subst (λ (s : ℕ). (place : ℕ) → IsSeatOverAt input trace s place) (ap (λ (e : Event). e.seat) same ∙ sym c.seat.ensures) at.over);
}

pub returns-in-Some-row_sent : goal.returns-in-Some-row_sent
returns-in-Some-row_sent c = record {
  over = search rules;
  left = λ trace stands is at.
      let input = input_of c.args.closed.now c.args.tenant c.args.self.now.replay.limits in
      let same = sent_there input trace c.args.partition c.in-Some.event (c.in-Some.ensures trace stands.noted.replies) at in
      let row = row_for input trace c.in-Some.event c.seat-2.result c.number.result (Some c.in-Some-row_sent._row) c.seat-2.ensures c.number.ensures (c.in-Some-row_sent.ensures input trace c.requires.given.sized c.requires.given.places stands) in
      some_none c.in-Some-row_sent._row (row ∙ subst (λ (e : Event). at_place (call_rows input e.seat trace) e.number ≡ None) same at.unsent);
}

pub returns-in-None : goal.returns-in-None
returns-in-None c = record {
  over = λ trace stands is.
      let input = input_of c.args.closed.now c.args.tenant c.args.self.now.replay.limits in
      record {
        event = c.in-Some.event;
        next = c.in-Some.ensures trace stands.noted.replies;
        over = subst (λ (s : ℕ). (place : ℕ) → IsSeatOverAt input trace s place) c.seat.ensures (c.is_seat_over.ensures.over trace stands c.if-not-is_seat_over.false);
        unsent = sym (row_for input trace c.in-Some.event c.seat-2.result c.number.result None c.seat-2.ensures c.number.ensures (c.in-None.ensures input trace c.requires.given.sized c.requires.given.places stands));
      };
  left = search rules;
}
