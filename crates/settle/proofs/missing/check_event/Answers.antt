use Rattle.std.proofs.Common.{ℕ, inl, inr, sym, ◌∙◌, subst, length, slice_get}
use Rattle.std.proofs.lemmas.Option.{slice_get_within}
use Rattle.settle.specs.Input.{input_of, events_of_partition}
use Rattle.settle.specs.Standing.{NoneOfSeat}
use Rattle.settle.proofs.Looked.{called_there}
use Rattle.settle.proofs.missing.check_event.Goals as goal

pub returns-in-None : goal.returns-in-None
returns-in-None c limits =
    let events = events_of_partition (input_of c.args.closed.now c.args.tenant limits) c.args.partition in
    let found = called_there (slice_get events c.args.place) c.in-Some.seat c.in-Some._number (c.in-Some.ensures limits) in
    let none = subst (λ (s : ℕ). NoneOfSeat c.args.closed.now.transcripts.items c.args.tenant s (length c.args.closed.now.transcripts.items)) (sym found.2) (c.in-None.ensures c.args.closed.now.transcripts.items c.args.tenant c.requires.places) in
    inr (inl (record {
      partition = c.args.partition;
      n = c.args.place;
      event = found.0;
      there = found.1;
      seat = λ zero. c.if-seat-eq0.false (sym found.2 ∙ zero);
      none = λ place transcript its same. none place transcript (slice_get_within c.args.closed.now.transcripts.items place transcript its.0) its.0 (its.1, same);
    }))
