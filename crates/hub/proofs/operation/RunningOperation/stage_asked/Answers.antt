use Rattle.std.proofs.Common.{arith, sym}
use Rattle.history.proofs.Lists.{prefix_join}
use Rattle.hub.proofs.Evidence.{sent_of_puts}
use Rattle.hub.proofs.Given.{prefix_is}
use Rattle.hub.proofs.Rooms.{room_for_fewer}
use Rattle.hub.proofs.operation.RunningOperation.stage_asked.Goals as goal

-- each is of a put that is entered so
pub stage_calls-requires-clause-puts : goal.stage_calls-requires-clause-puts
stage_calls-requires-clause-puts g c =
    let before = c.args.self.now in
    ∣ sent_of_puts c.enter_decided.new.seen before.name.tenant c.args.taken.now before.readings.value _ c.requires.asks c.requires.sends (c.enter_decided.ensures.decided c.if-not-enter_decided.false) ∣₁

pub returns-clause-room : goal.returns-clause-room
returns-clause-room g c calls room = c.stage_calls.ensures.room calls room

pub returns-then-not-enter_decided-clause-room : goal.returns-then-not-enter_decided-clause-room
returns-then-not-enter_decided-clause-room g c calls room = room_for_fewer calls _ c.args.self.now.dispatcher (omega arith) room

-- all else is as it was
pub returns-clause-rest : goal.returns-clause-rest
returns-clause-rest g c =
    let rest = c.stage_calls.ensures.rest in
    record {
      counted = omega (arith, c.stage_calls.ensures.all);
      name = rest.0;
      session = rest.1;
      entries = rest.2;
      first = rest.3;
      place = rest.4;
      fault = rest.5;
      readings = rest.6;
      mark = rest.8;
      seen = prefix_join _ _ _ c.enter_decided.ensures.later (prefix_is _ _ (sym rest.7));
    }
