use Rattle.std.proofs.Common.{◌≤◌, ◌+◌, ◌∙◌, List, length, map, slice_get, ap, refl, subst, sym, arith}
use Rattle.std.proofs.lemmas.List.{length-map}
use Rattle.plain_store.specs.Run.{call_message}
use Rattle.tenant_sessions.specs.Running.{waiting_calls}
use Rattle.tenant_sessions.specs.declared.session.ClientSession.{ClientSession}
use Rattle.history.specs.declared.entry.HistoryEntry.{HistoryEntry}
use Rattle.shard.specs.declared.seat_name.SeatName.{SeatName}
use Rattle.tenant_sessions.specs.Sending.{waiting_of}
use Rattle.hub.specs.Evidence.{AreOfPuts}
use Rattle.hub.proofs.Behind.{behind-start, behind-more, behind-all, next-same}
use Rattle.hub.proofs.Rooms.{room_for_fewer, open_retry}
use Rattle.hub.proofs.operation.RunningOperation.stage_calls.Goals as goal

-- an open session reports what it waits for
pub unwrap-count-requires : goal.unwrap-count-requires
unwrap-count-requires g c = open_retry c.args.self.now.session c.args.self.now.opened c.pending_calls.result c.pending_calls.ensures.refused

pub stage_call-requires-clause-room : goal.stage_call-requires-clause-room
stage_call-requires-clause-room g c =
    let count = rw c.unwrap-count.ensures at c.pending_calls.ensures.waiting in
    c.loop-nth.invariant.room 1 (room_for_fewer (c.loop-nth.nth + 1) _ c.args.self.now.dispatcher (omega (arith, c.loop-nth-test.true, count)) c.requires.room)

-- what it waits for is what it waited for
pub stage_call-requires-clause-puts : goal.stage_call-requires-clause-puts
stage_call-requires-clause-puts g c =
    let so_far = c.loop-nth.invariant in
    let before = c.args.self.now in
    let now = c.loop-nth.self in
    let P : ClientSession → Type 0 = λ s. ∥ AreOfPuts before.seen before.name.tenant (waiting_of s.running) ∥₁ in
    let Q : SeatName → Type 0 = λ n. ∥ AreOfPuts before.seen n.tenant (waiting_of now.session.running) ∥₁ in
    let R : List HistoryEntry → Type 0 = λ l. ∥ AreOfPuts l now.name.tenant (waiting_of now.session.running) ∥₁ in
    subst R (sym so_far.seen) (subst Q (sym so_far.name) (subst P (sym so_far.session) c.requires.puts))

pub loop-nth-preserved : goal.loop-nth-preserved
loop-nth-preserved g c =
    let so_far = c.loop-nth.invariant in
    let rest = c.stage_call.ensures.one.rest in
    record {
      name = rest.0 ∙ so_far.name;
      session = rest.1 ∙ so_far.session;
      entries = rest.2 ∙ so_far.entries;
      first = rest.3 ∙ so_far.first;
      place = rest.4 ∙ so_far.place;
      fault = rest.5 ∙ so_far.fault;
      readings = rest.6 ∙ so_far.readings;
      seen = rest.7 ∙ so_far.seen;
      mark = rest.8 ∙ so_far.mark;
      sent = omega (arith, c.stage_call.ensures.one.counted, so_far.sent);
      parts = c.stage_call.ensures.one.parts ∙ so_far.parts;
      staged = λ setup asked taken running is stands.
          let before = c.args.self.now in
          let now = c.loop-nth.self in
          let calls = waiting_calls setup asked taken in
          behind-more before.name before.dispatcher.parts (before.first + 1 + before.dispatcher.sent) c.loop-nth.nth (map (call_message before.name.client before.session.ticket) calls) before.dispatcher.calls.items now.dispatcher.calls.items _
          (so_far.staged setup asked taken running is stands)
          (next-same before.name now.name before.dispatcher.parts now.dispatcher.parts (before.first + 1 + before.dispatcher.sent + c.loop-nth.nth) (now.first + 1 + now.dispatcher.sent) _ _ _ _ _ so_far.name so_far.parts (omega (arith, so_far.first, so_far.sent))
          (λ i. slice_get (map (call_message (so_far.name i).client (so_far.session i).ticket) calls) c.loop-nth.nth) refl
          (c.stage_call.ensures.staged setup asked taken running (ap (λ (s : ClientSession). s.running) so_far.session ∙ is) stands));
      room = λ calls room. c.stage_call.ensures.room calls (so_far.room (1 + calls) (room_for_fewer (c.loop-nth.nth + (1 + calls)) _ c.args.self.now.dispatcher (omega arith) room));
    }

pub returns-clause-room : goal.returns-clause-room
returns-clause-room g c calls room =
    let count = rw c.unwrap-count.ensures at c.pending_calls.ensures.waiting in
    c.loop-nth.invariant.room calls (room_for_fewer (c.loop-nth.nth + calls) _ c.args.self.now.dispatcher (omega (arith, count)) room)

-- as many as it waits for
pub returns-clause-staged : goal.returns-clause-staged
returns-clause-staged g c setup asked taken running is stands =
    let before = c.args.self.now in
    let count = rw c.unwrap-count.ensures at c.pending_calls.ensures.count setup asked taken running is stands in
    let calls = map (call_message before.name.client before.session.ticket) (waiting_calls setup asked taken) in
    let past : length calls ≤ c.loop-nth.nth = omega (arith, count, c.loop-nth-test.false, length-map (waiting_calls setup asked taken) (call_message before.name.client before.session.ticket)) in
    behind-all _ _ _ c.loop-nth.nth calls _ _ past (c.loop-nth.invariant.staged setup asked taken running is stands)

-- none is staged yet
pub loop-nth-init : goal.loop-nth-init
loop-nth-init g c = record {
  name = refl;
  session = refl;
  entries = refl;
  first = refl;
  place = refl;
  fault = refl;
  readings = refl;
  seen = refl;
  mark = refl;
  sent = omega arith;
  parts = refl;
  staged = λ setup asked taken running is stands. behind-start _ _ _ _;
  room = λ calls room. room_for_fewer calls (0 + calls) c.args.self.now.dispatcher (omega arith) room;
}
