use Rattle.std.proofs.Common.{◌≡◌, false, true}
use Rattle.std.proofs.lemmas.Bool.{eq-eqb, eqb-true}
use Rattle.settle.specs.Input.{input_of, events_of_partition}
use Rattle.settle.proofs.Looked.{no_caller, of_call, is_call}
use Rattle.settle.proofs.lookups.is_event_of.Goals as goal

pub returns-then-its_seat-seat : goal.returns-then-its_seat-seat
returns-then-its_seat-seat c limits =
    let events = events_of_partition (input_of c.args.closed.now c.args.tenant limits) c.args.partition in
    let there = c.in-Some.ensures limits in (
      λ same. is_call events c.args.seat c.args.number c.args.place c.in-Some.its_seat c.in-Some.its_number there c.if-its_seat-seat.true (eqb-true c.in-Some.its_number c.args.number same),
      λ is. eq-eqb c.in-Some.its_number c.args.number (of_call events c.args.seat c.args.number c.args.place c.in-Some.its_seat c.in-Some.its_number there is).1,
    )

pub returns-else-its_seat-seat : goal.returns-else-its_seat-seat
returns-else-its_seat-seat c limits =
    let events = events_of_partition (input_of c.args.closed.now c.args.tenant limits) c.args.partition in
    let there = c.in-Some.ensures limits in (
      λ same. absurd (c.if-its_seat-seat.false (eqb-true c.in-Some.its_seat c.args.seat same)),
      λ is. eq-eqb c.in-Some.its_seat c.args.seat (of_call events c.args.seat c.args.number c.args.place c.in-Some.its_seat c.in-Some.its_number there is).0,
    )

pub returns-in-None : goal.returns-in-None
returns-in-None c limits =
    let events = events_of_partition (input_of c.args.closed.now c.args.tenant limits) c.args.partition in (
      λ bad. let no : false ≡ true = bad in cc,
      λ is. absurd (no_caller events c.args.seat c.args.number c.args.place (c.in-None.ensures limits) is),
    )
