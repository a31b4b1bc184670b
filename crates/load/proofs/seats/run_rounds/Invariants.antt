use Rattle.std.proofs.Common.{◌≡◌, []}
use Rattle.std.specs.List.{filter_map}
use Rattle.server_sessions.specs.SeatAnswers.{AreGiven}
use Rattle.load.specs.Rounds.{act_in, acts_drawn, state_after}
use Rattle.load.proofs.seats.run_rounds.Given as goal

abbrev pub invariant-loop-done : goal.invariant-loop-done
invariant-loop-done g l = record {
  name : l.seat.name ≡ l.initial.seat.name;
  state : l.draws.state ≡ state_after l.done l.initial.draws.state;
  began : l.initial.seat.entries ≡ [] → filter_map act_in l.seat.entries ≡ acts_drawn l.initial.seat.name.client l.orders.keys l.done l.initial.draws.state;
  given : l.initial.seat.entries ≡ [] → AreGiven l.seat;
}
