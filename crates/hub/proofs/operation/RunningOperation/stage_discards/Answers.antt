use Rattle.std.proofs.Common.{◌≤◌, ◌∙◌, length, sym, arith}
use Rattle.std.proofs.lemmas.Bool.{ltb-false}
use Rattle.history.proofs.Lists.{prefix_join}
use Rattle.tenant_sessions.specs.Moves.{moved, ending}
use Rattle.hub.proofs.Evidence.{discards_of_put}
use Rattle.hub.proofs.Given.{prefix_is}
use Rattle.hub.proofs.Rooms.{room_for_fewer}
use Rattle.hub.proofs.operation.RunningOperation.stage_discards.Goals as goal

pub returns-clause-room : goal.returns-clause-room
returns-clause-room g c calls room = c.stage_ending.ensures.room calls room

-- they are of the put that is entered so
pub stage_ending-requires-clause-puts : goal.stage_ending-requires-clause-puts
stage_ending-requires-clause-puts g c =
    let before = c.args.self.now in
    discards_of_put c.enter_given_up.new.seen before.name.tenant c.discarded.result _ (c.enter_given_up.ensures.given_up c.if-not-enter_given_up.false) (c.discarded.ensures before.readings.value)

pub returns-then-not-enter_given_up-clause-room : goal.returns-then-not-enter_given_up-clause-room
returns-then-not-enter_given_up-clause-room g c calls room = room_for_fewer calls _ c.args.self.now.dispatcher (omega arith) room

-- there is none
pub returns-then-not-has_ending-clause-room : goal.returns-then-not-has_ending-clause-room
returns-then-not-has_ending-clause-room g c calls room = room_for_fewer calls _ c.args.self.now.dispatcher (omega arith) room

pub returns-then-not-has_ending-clause-sent : goal.returns-then-not-has_ending-clause-sent
returns-then-not-has_ending-clause-sent g c did told =
    let none : length (ending (moved c.args.taken.now told)) ≤ 0 = ltb-false _ _ (sym (c.has_ending.ensures told) ∙ c.if-not-has_ending.true) in
    omega (arith, none)

-- all else is as it was
pub returns-clause-rest : goal.returns-clause-rest
returns-clause-rest g c =
    let rest = c.stage_ending.ensures.rest in
    record {
      counted = omega (arith, c.stage_ending.ensures.all c.args.self.now.readings.value);
      name = rest.0;
      session = rest.1;
      entries = rest.2;
      first = rest.3;
      place = rest.4;
      fault = rest.5;
      readings = rest.6;
      mark = rest.8;
      seen = prefix_join _ _ _ c.enter_given_up.ensures.later (prefix_is _ _ (sym rest.7));
    }
