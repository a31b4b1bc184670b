use Rattle.std.proofs.Common.{◌+◌, ◌<◌, ◌≤◌, ◌∙◌, List, length, map, slice_get, ap, refl, subst, sym, arith}
use Rattle.std.proofs.lemmas.Bool.{ltb-false, ltb-true}
use Rattle.std.proofs.lemmas.List.{length-map}
use Rattle.plain_store.specs.declared.reading.Reading.{Reading}
use Rattle.plain_store.specs.Run.{call_message}
use Rattle.plain_store.specs.Writing.{Outgoing}
use Rattle.history.specs.declared.entry.HistoryEntry.{HistoryEntry}
use Rattle.shard.specs.declared.seat_name.SeatName.{SeatName}
use Rattle.tenant_sessions.specs.Moves.{moved, ending}
use Rattle.hub.specs.Evidence.{AreOfPuts}
use Rattle.hub.proofs.Behind.{behind-start, behind-more, behind-all, next-same}
use Rattle.hub.proofs.Rooms.{room_for_fewer, same-ending}
use Rattle.hub.proofs.operation.RunningOperation.stage_ending.Goals as goal

pub stage_ending_call-requires-clause-room : goal.stage_ending_call-requires-clause-room
stage_ending_call-requires-clause-room g c =
    let told = c.args.self.now.readings.value in
    let less : c.loop-nth.nth < length (ending (moved c.args.taken.now told)) = ltb-true _ _ (sym (c.has_ending.ensures told) ∙ c.if-not-has_ending.false) in
    c.loop-nth.invariant.room 1 (room_for_fewer (c.loop-nth.nth + 1) _ c.args.self.now.dispatcher (omega arith) c.requires.room)

-- they are those that were
pub stage_ending_call-requires-clause-puts : goal.stage_ending_call-requires-clause-puts
stage_ending_call-requires-clause-puts g c =
    let so_far = c.loop-nth.invariant in
    let before = c.args.self.now in
    let now = c.loop-nth.self in
    let P : List Reading → Type 0 = λ told. AreOfPuts before.seen before.name.tenant (ending (moved c.args.taken.now told)) in
    let calls : List Outgoing = ending (moved c.args.taken.now now.readings.value) in
    let Q : SeatName → Type 0 = λ n. AreOfPuts before.seen n.tenant calls in
    let R : List HistoryEntry → Type 0 = λ l. AreOfPuts l now.name.tenant calls in
    subst R (sym so_far.seen) (subst Q (sym so_far.name) (subst P (ap (λ r. r.value) (sym so_far.readings)) c.requires.puts))

pub loop-nth-preserved : goal.loop-nth-preserved
loop-nth-preserved g c =
    let so_far = c.loop-nth.invariant in
    let rest = c.stage_ending_call.ensures.one.rest in
    record {
      name = rest.0 ∙ so_far.name;
      session = rest.1 ∙ so_far.session;
      entries = rest.2 ∙ so_far.entries;
      first = rest.3 ∙ so_far.first;
      place = rest.4 ∙ so_far.place;
      fault = rest.5 ∙ so_far.fault;
      readings = rest.6 ∙ so_far.readings;
      seen = rest.7 ∙ so_far.seen;
      mark = rest.8 ∙ so_far.mark;
      sent = omega (arith, c.stage_ending_call.ensures.one.counted, so_far.sent);
      parts = c.stage_ending_call.ensures.one.parts ∙ so_far.parts;
      staged = λ told.
          let before = c.args.self.now in
          let now = c.loop-nth.self in
          let calls = ending (moved c.args.taken.now told) in
          behind-more before.name before.dispatcher.parts (before.first + 1 + before.dispatcher.sent) c.loop-nth.nth (map (call_message before.name.client c.args.ticket) calls) before.dispatcher.calls.items now.dispatcher.calls.items _
          (so_far.staged told)
          (next-same before.name now.name before.dispatcher.parts now.dispatcher.parts (before.first + 1 + before.dispatcher.sent + c.loop-nth.nth) (now.first + 1 + now.dispatcher.sent) _ _ _ _ _ so_far.name so_far.parts (omega (arith, so_far.first, so_far.sent))
          (λ i. slice_get (map (call_message (so_far.name i).client c.args.ticket) calls) c.loop-nth.nth) refl
          (c.stage_ending_call.ensures.staged told));
      room = λ calls room. c.stage_ending_call.ensures.room calls (so_far.room (1 + calls) (room_for_fewer (c.loop-nth.nth + (1 + calls)) _ c.args.self.now.dispatcher (omega arith) room));
      few = λ told.
          let less : c.loop-nth.nth < length (ending (moved c.args.taken.now told)) = ltb-true _ _ (sym (c.has_ending.ensures told) ∙ c.if-not-has_ending.false) in
          omega arith;
    }

pub returns-then-not-has_ending-clause-room : goal.returns-then-not-has_ending-clause-room
returns-then-not-has_ending-clause-room g c calls room =
    let few = c.loop-nth.invariant.few c.args.self.now.readings.value in
    c.loop-nth.invariant.room calls (room_for_fewer (c.loop-nth.nth + calls) _ c.args.self.now.dispatcher (omega (arith, few)) room)

-- there is none at this place, so these are all
pub returns-then-not-has_ending-clause-staged : goal.returns-then-not-has_ending-clause-staged
returns-then-not-has_ending-clause-staged g c told =
    let calls = ending (moved c.args.taken.now told) in
    let message = call_message c.args.self.now.name.client c.args.ticket in
    let none : length calls ≤ c.loop-nth.nth = ltb-false _ _ (sym (c.has_ending.ensures told) ∙ c.if-not-has_ending.true) in
    behind-all _ _ _ c.loop-nth.nth (map message calls) _ _ (omega (arith, none, length-map calls message)) (c.loop-nth.invariant.staged told)

pub returns-clause-staged : goal.returns-clause-staged
returns-clause-staged g c told =
    let calls = ending (moved c.args.taken.now told) in
    let message = call_message c.args.self.now.name.client c.args.ticket in
    let same = same-ending c.args.taken.now told c.args.self.now.readings.value in
    let most : length calls ≤ c.loop-nth.nth = omega (arith, ap length same, c.requires.room.there.numbers, c.loop-nth-test.false) in
    behind-all _ _ _ c.loop-nth.nth (map message calls) _ _ (omega (arith, most, length-map calls message)) (c.loop-nth.invariant.staged told)

-- none is staged yet
pub loop-nth-init : goal.loop-nth-init
loop-nth-init g c = record {
  name = refl;
  session = refl;
  entries = refl;
  first = refl;
  place = refl;
  fault = refl;
  readings = refl;
  seen = refl;
  mark = refl;
  sent = omega arith;
  parts = refl;
  staged = λ told. behind-start _ _ _ _;
  room = λ calls room. room_for_fewer calls (0 + calls) c.args.self.now.dispatcher (omega arith) room;
  few = λ told. omega arith;
}
