use Rattle.std.proofs.Common.{◌≡◌, ◌<◌, ◌+◌, ◌^◌, ◌∙◌, ap, map, arith}
use Rattle.std.specs.VecDeque.{deque_len}
use Rattle.shard.specs.Asked.{asked_by}
use Rattle.hub.specs.Staging.{unserved}
use Rattle.hub.proofs.Rooms.{ends_there, same_room}
use Rattle.hub.proofs.dispatcher.Dispatcher.dispatch.Goals as goal

-- nothing of the room is used but the ends of those that go to the workers, and there is one for each of them
pub hand_over-requires : goal.hand_over-requires
hand_over-requires g c = ends_there c.args.self.now 0 c.requires

pub hand_over-requires-2 : goal.hand_over-requires-2
hand_over-requires-2 g c =
    let here = c.loop-held.invariant in
    ends_there c.loop-held.self 0 (same_room c.args.self.now c.loop-held.self here.room here.sent here.calls.0 here.served 0 c.requires)

pub returns-clause-hands : goal.returns-clause-hands
returns-clause-hands g c =
    let here = c.loop-held.invariant in
    let now = c.loop-held.self in
    let hands = c.hand_over-2.ensures.hands in
    record {
      room = λ calls room. hands.room calls (same_room c.args.self.now now here.room here.sent here.calls.0 here.served calls room);
      none = λ past. hands.none (omega (arith, past, here.calls.0, here.served));
      sent = hands.sent ∙ here.sent;
      kept = λ all bound.
          let few : deque_len now.calls + now.queued < 2 ^ 64 = omega (arith, bound, here.calls.0, here.calls.1) in
          omega (arith, hands.kept all few, here.calls.0, here.calls.1);
      served = hands.served;
    }

-- where none went to a worker, none was taken out
pub returns-then-self-gt0-clause-asked : goal.returns-then-self-gt0-clause-asked
returns-then-self-gt0-clause-asked g c all bound same =
    let none : unserved c.args.self.now.served c.args.self.now.calls.items ≡ 0 = omega (arith, c.hand_over.ensures.handed all bound, same) in
    ap (λ q. map asked_by q.items) (c.hand_over.ensures.here none)

pub returns-clause-asked : goal.returns-clause-asked
returns-clause-asked g c all bound same =
    let here = c.loop-held.invariant in
    let now = c.loop-held.self in
    let few : deque_len now.calls + now.queued < 2 ^ 64 = omega (arith, bound, here.calls.0, here.calls.1) in
    let none : unserved now.served now.calls.items ≡ 0 = omega (arith, c.hand_over-2.ensures.handed all few, same, here.calls.1) in
    ap (λ q. map asked_by q.items) (c.hand_over-2.ensures.here none) ∙ here.asked
