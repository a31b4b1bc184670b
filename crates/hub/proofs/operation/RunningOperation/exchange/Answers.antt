use Rattle.std.proofs.Common.{◌≡◌, ◌<◌, ◌≤◌, ◌+◌, Option, refl, sym, ap, is_some, ◌∙◌, subst, arith, rules}
use Rattle.std.proofs.Math.Logic.{∥∥₁_map}
use Rattle.history.proofs.Lists.{prefix_join}
use Rattle.hub.specs.Sights.{operation_of, sight_of}
use Rattle.hub.proofs.Evidence.{under_way_later, under_way_same}
use Rattle.hub.proofs.Given.{IsLaterOperation, IsLaterSight, operations, served-later, served-same, sights}
use Rattle.hub.proofs.Replies.{reads-later}
use Rattle.hub.proofs.Moved.{runs_as, runs_begun}
use Rattle.hub.proofs.Rooms.{places_with, room_for_fewer}
use Rattle.tenant_sessions.specs.CallsLeft.{calls_left}
use Rattle.tenant_sessions.specs.declared.session.ClientSession.{ClientSession}
use Rattle.hub.specs.Rooms.{HasRoom}
use Rattle.hub.specs.Seats.{EndsSo, spare, told_by}
use Rattle.hub.specs.Taken.{replies_in}
use Rattle.hub.specs.declared.operation.AnswerRoom.{AnswerRoom}
use Rattle.hub.proofs.operation.RunningOperation.exchange.Goals.{else-loop-taken-test, then-loop-taken-test+then-taken-most, then-loop-taken-test+else-taken-most+else-not-awaits+in_default}
use Rattle.hub.proofs.operation.RunningOperation.exchange.Goals as goal

pub stage_calls-requires-clause-room : goal.stage_calls-requires-clause-room
stage_calls-requires-clause-room g c = room_for_fewer _ _ c.args.self.now.dispatcher (omega arith) c.requires.calls

-- what was staged is as it was, but for the calls, and there is room for those that may still be asked for
pub loop-taken-init : goal.loop-taken-init
loop-taken-init g c =
    let before = c.args.self.now in
    let staged = c.stage_calls.new.self in
    let answer = c.args.answer.now in
    let rest = c.stage_calls.ensures.rest in
    let entries = rest.2 in
    let session = rest.1 in
    let Q : ClientSession → Type 0 = λ s. HasRoom (calls_left s.running) staged.dispatcher in
    record {
      room = omega (arith, c.requires.room, ap (λ e. e.room) entries, ap spare rest.4);
      calls = subst Q (sym session) (c.stage_calls.ensures.room _ c.requires.calls);
      over = λ some. (rest.5, entries);
      few = omega (arith, ap (λ e. replies_in e.items) entries);
      ends = λ ended. subst (λ (p : Option AnswerRoom). EndsSo p answer) (sym rest.4) ended;
      under_way = ∥∥₁_map c.requires.under_way (under_way_same _ _ c.args.own _ _ _ _ _ _ (operations _ _ _ _ _ _ rest.0 rest.8 rest.7) (ap (λ e. e.items) entries) (ap (λ (s : ClientSession). s.running) session) (ap (λ p. told_by p answer) rest.4));
      runs = runs_begun _ _ before staged answer (rest.0, rest.3, omega (arith, c.stage_calls.ensures.all), entries, rest.7, session, rest.4, rest.8);
    }

pub dispatch-sent-requires : goal.dispatch-sent-requires
dispatch-sent-requires g c = room_for_fewer _ _ c.loop-taken.self.dispatcher (omega arith) c.loop-taken.invariant.calls

pub enter_reply-requires-clause-calls : goal.enter_reply-requires-clause-calls
enter_reply-requires-clause-calls g c = c.next_reply.ensures.takes.room _ (c.dispatch-sent.ensures.hands.room _ c.loop-taken.invariant.calls)

-- what is under way goes on with what is seen
pub enter_reply-requires-clause-under_way : goal.enter_reply-requires-clause-under_way
enter_reply-requires-clause-under_way g c =
    let before = c.loop-taken.self in
    ∥∥₁_map c.loop-taken.invariant.under_way
    (under_way_later (operation_of before.name before.mark before.seen) (operation_of before.name before.mark c.learn.new.self) c.args.own _ _ _ (record { tenant = refl; seat = refl; mark = refl; seen = c.learn.ensures.this }))

-- the reply was sent to this seat
pub loop-taken-preserved : goal.loop-taken-preserved
loop-taken-preserved g c =
    let so_far = c.loop-taken.invariant in
    let runs = so_far.runs in
    let whole = runs.goes_on in
    let name = c.args.self.now.name in
    let before = c.loop-taken.self in
    let after = c.enter_reply.new.self in
    let told = c.enter_reply.ensures in
    let entered = told.takes in
    let own = c.in-Some.ensures.own in
    let numbered = c.in-Some.ensures.numbered in
    let at = sight_of name before.seen in
    let learned = sight_of name c.learn.new.self in
    let more : IsLaterSight at learned = record { tenant = refl; seat = refl; seen = c.learn.ensures.this } in
    let mark = c.args.self.now.mark in
    let reading = operation_of name mark before.seen in
    let read = operation_of name mark c.learn.new.self in
    let last = operation_of name mark after.seen in
    let reads_on : IsLaterOperation reading read = record { tenant = refl; seat = refl; mark = refl; seen = c.learn.ensures.this } in
    let ends : IsLaterOperation read last = record { tenant = refl; seat = refl; mark = refl; seen = entered.goes_on.seen } in
    let first = c.args.self.now.first in
    let sent = c.dispatch-sent.ensures.hands.sent in
    let later : before.dispatcher.sent ≤ after.dispatcher.sent = omega (arith, sent, c.next_reply.ensures.takes.sent, entered.sent) in
    let all = first + after.dispatcher.sent in
    record {
      room = omega (arith, entered.room, so_far.room);
      calls = record { boxes = omega (arith, told.calls.boxes, c.keep.ensures.no_fewer); there = places_with _ _ refl refl refl refl _ told.calls.there };
      over = λ some.
          let was = so_far.over some in
          let kept = c.first_fault-self.ensures.first (ap is_some was.0 ∙ some) in
          let is = told.over (ap is_some (kept ∙ was.0) ∙ some) in
          (is.0 ∙ kept ∙ was.0, is.1 ∙ was.1);
      few = omega (arith, entered.replies, so_far.few);
      ends = λ ended. entered.ends (so_far.ends ended);
      under_way = ∥∥₁_map told.under_way (under_way_same _ _ c.args.own _ _ _ _ _ _ (operations _ _ _ _ _ _ entered.goes_on.name entered.goes_on.mark refl) refl refl refl);
      runs = record {
        few = omega (arith, entered.replies, so_far.few);
        entered = λ start follows. entered.entered start (runs.entered start follows);
        read = λ setup asked start stamped reads.
            reads-later read last setup asked start _ _ _ ends
            (entered.read read setup asked start stamped (own.0 ∙ ap (λ n. n.tenant) whole.name) (own.1 ∙ ap (λ n. n.seat) whole.name) (c.in-Some.ensures.marked ∙ whole.mark) c.learn.ensures.that
            (reads-later reading read setup asked start _ _ _ reads_on (runs.read setup asked start stamped reads)));
        served = λ start are.
            let behind : first < c.in-Some.reply.number = omega (arith, numbered.0, whole.first) in
            let up_to : c.in-Some.reply.number ≤ all = omega (arith, numbered.1, whole.first, sent, later) in
            served-same (sight_of before.name after.seen) (sight_of name after.seen) first first all all start after.entries.items after.entries.items (sights _ _ _ _ (sym whole.name) refl) refl (omega arith) refl
            (entered.served first all start own.0 own.1 c.learn.ensures.that behind up_to
            (served-same learned (sight_of before.name c.learn.new.self) first first (first + before.dispatcher.sent) all start before.entries.items before.entries.items (sights _ _ _ _ whole.name refl) refl (omega (arith, later)) refl
            (served-later at learned first (first + before.dispatcher.sent) start before.entries.items more (runs.served start are))));
        counter = omega (arith, entered.counter, runs.counter);
        goes_on = record {
          name = entered.goes_on.name ∙ whole.name;
          first = entered.goes_on.first ∙ whole.first;
          seen = prefix_join _ _ _ whole.seen (prefix_join _ _ _ c.learn.ensures.this entered.goes_on.seen);
          mark = entered.goes_on.mark ∙ whole.mark;
        };
      };
    }

-- behind the last reply, only what is on its way changed, and whether there was a fault
other : goal.returns-clause-runs
other g c =
    let before = c.loop-taken.self in
    runs_as c.args.takes c.args.own c.args.self.now before _ c.args.answer.now c.loop-taken.answer (search rules) c.loop-taken.invariant.runs

pub returns-clause-runs : goal.returns-clause-runs
returns-clause-runs g c =
    let before = c.loop-taken.self in
    let runs = c.loop-taken.invariant.runs in
    elim c.loop-taken-test.branch [
      | else-loop-taken-test w ↦
          let is = w.self-is in
          let sent : c.loop-taken-test.self.1.1.0.sent ≡ before.dispatcher.sent = λ i. (is i).1.1.0.sent in
          runs_as c.args.takes c.args.own c.args.self.now before _ c.args.answer.now c.loop-taken.answer
          (λ i. (is i).1.0, λ i. (is i).1.1.1.1.1.1.1.1.1.0, λ i. (is i).1.1.1.1.0, λ i. (is i).1.1.1.1.1.0, λ i. (is i).1.1.1.0, λ i. (is i).1.1.1.1.1.1.1.1.1.1.0, λ i. (is i).1.1.1.1.1.1.0, omega (arith, sent)) runs
      | then-loop-taken-test+then-taken-most w ↦
          let is = w.self-is in
          let sent : c.loop-taken-test.self.1.1.0.sent ≡ w.dispatch-sent.new.self.sent = λ i. (is i).1.1.0.sent in
          runs_as c.args.takes c.args.own c.args.self.now before _ c.args.answer.now c.loop-taken.answer
          (λ i. (is i).1.0, λ i. (is i).1.1.1.1.1.1.1.1.1.0, λ i. (is i).1.1.1.1.0, λ i. (is i).1.1.1.1.1.0, λ i. (is i).1.1.1.0, λ i. (is i).1.1.1.1.1.1.1.1.1.1.0, λ i. (is i).1.1.1.1.1.1.0, omega (arith, sent, w.dispatch-sent.ensures.hands.sent)) runs
      | then-loop-taken-test+else-taken-most+else-not-awaits+in_default w ↦
          let is = w.self-is in
          let sent : c.loop-taken-test.self.1.1.0.sent ≡ w.next_reply.new.self.sent = λ i. (is i).1.1.0.sent in
          runs_as c.args.takes c.args.own c.args.self.now before _ c.args.answer.now c.loop-taken.answer
          (λ i. (is i).1.0, λ i. (is i).1.1.1.1.1.1.1.1.1.0, λ i. (is i).1.1.1.1.0, λ i. (is i).1.1.1.1.1.0, λ i. (is i).1.1.1.0, λ i. (is i).1.1.1.1.1.1.1.1.1.1.0, λ i. (is i).1.1.1.1.1.1.0, omega (arith, sent, w.dispatch-sent.ensures.hands.sent, w.next_reply.ensures.takes.sent)) runs
    ]
