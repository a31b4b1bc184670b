use Rattle.std.proofs.Common.{◌≡◌, sym, ◌∙◌, slice_get, refl, Some, None, inl, inr, rules}
use Rattle.settle.specs.Input.{input_of, events_of_partition}
use Rattle.settle.specs.Trace.{OfJournal, times}
use Rattle.settle.proofs.Looked.{called_there, none_calls}
use Rattle.settle.proofs.NextSteps.{was_sent, row_for}
use Rattle.settle.proofs.progress.Progress.next_of_journal.Goals as goal

pub returns-in_default : goal.returns-in_default
returns-in_default c = record {
  choice = λ trace stands act may. none_calls _ may.0 (c.in_default.ensures trace stands.noted.replies) may.1;
  within = search rules;
}

pub returns-then-seat-eq0 : goal.returns-then-seat-eq0
returns-then-seat-eq0 c = record {
  choice = λ trace stands.
      let input = input_of c.args.closed.now c.args.tenant c.args.self.now.replay.limits in
      let found = called_there (slice_get (events_of_partition input c.args.partition) (times (OfJournal c.args.partition) trace)) c.in-Some.seat c.in-Some.number (c.in-Some.ensures trace stands.noted.replies) in
      (found.0, found.1, inl (found.2 ∙ c.if-seat-eq0.true, refl));
  within = search rules;
}

pub returns-in_default-row_sent : goal.returns-in_default-row_sent
returns-in_default-row_sent c = record {
  choice = λ trace stands act may.
      let input = input_of c.args.closed.now c.args.tenant c.args.self.now.replay.limits in
      let found = called_there (slice_get (events_of_partition input c.args.partition) (times (OfJournal c.args.partition) trace)) c.in-Some.seat c.in-Some.number (c.in-Some.ensures trace stands.noted.replies) in
      let row = row_for input trace found.0 c.in-Some.seat c.in-Some.number None (sym found.2) (sym found.3) (c.in_default-row_sent.ensures input trace c.requires.given.sized c.requires.given.places stands) in
      let sent = was_sent input trace c.args.partition found.0 found.1 (λ zero. c.if-seat-eq0.false (sym found.2 ∙ zero)) act may in
      let bad : None ≡ Some sent.0 = row ∙ sent.2 in
      cc;
  within = search rules;
}

pub returns : goal.returns
returns c = record {
  choice = λ trace stands.
      let input = input_of c.args.closed.now c.args.tenant c.args.self.now.replay.limits in
      let found = called_there (slice_get (events_of_partition input c.args.partition) (times (OfJournal c.args.partition) trace)) c.in-Some.seat c.in-Some.number (c.in-Some.ensures trace stands.noted.replies) in
      let row = row_for input trace found.0 c.in-Some.seat c.in-Some.number (Some c.in-Some-row_sent.row) (sym found.2) (sym found.3) (c.in-Some-row_sent.ensures input trace c.requires.given.sized c.requires.given.places stands) in
      (found.0, found.1, inr ((λ zero. c.if-seat-eq0.false (sym found.2 ∙ zero)), (c.in-Some-row_sent.row, refl, sym row)));
  within = search rules;
}
