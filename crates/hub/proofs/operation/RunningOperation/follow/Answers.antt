use Rattle.std.proofs.Common.{◌≡◌, ◌≤◌, ◌+◌, ◌∙◌, ap, refl, sym, subst, arith}
use Rattle.history.proofs.Lists.{prefix_join, prefix_of_itself}
use Rattle.tenant_sessions.specs.CallsLeft.{calls_left, calls_sent, calls_waiting}
use Rattle.tenant_sessions.specs.Moves.{moved}
use Rattle.hub.specs.Operating.{FollowsMove, GoesOnAs}
use Rattle.hub.specs.Rooms.{HasRoom}
use Rattle.hub.specs.declared.operation.RunningOperation.{RunningOperation}
use Rattle.hub.proofs.Given.{prefix_is}
use Rattle.hub.proofs.Moved.{moves_on, moves_sent}
use Rattle.hub.proofs.Rooms.{room_for_fewer, room_at_end, room_going_on, sent_at_end, sent_on, none_sent}
use Rattle.hub.proofs.operation.RunningOperation.follow.Goals as goal
use Rattle.hub.proofs.operation.RunningOperation.follow.Goals.{else-sends-via-then-sends+else-not-stage_asked, else-sends-via-else-sends}

-- the calls of the end took theirs, and there is room for those that may still be asked for
pub returns-then-not-stage_discards-clause-calls : goal.returns-then-not-stage_discards-clause-calls
returns-then-not-stage_discards-clause-calls g c =
    let before = c.args.self.now in
    let last = sym (c.is_last.ensures before.readings.value) ∙ c.if-is_last.true in
    c.stage_discards.ensures.room _
    (room_at_end before.dispatcher c.enter_end.new.self.dispatcher (moved c.args.taken.now before.readings.value) _ (calls_waiting before.session.running) _ last c.enter_end.ensures.only.dispatcher
    (ap (λ r. moved c.args.taken.now r.value) c.enter_end.ensures.only.readings) c.requires.calls)

pub returns-else-not-stage_discards-clause-calls : goal.returns-else-not-stage_discards-clause-calls
returns-else-not-stage_discards-clause-calls g c =
    let before = c.args.self.now in
    let last = sym (c.is_last.ensures before.readings.value) ∙ c.if-is_last.true in
    c.stage_discards.ensures.room _
    (room_at_end before.dispatcher c.enter_end.new.self.dispatcher (moved c.args.taken.now before.readings.value) _ (calls_waiting before.session.running) _ last c.enter_end.ensures.only.dispatcher
    (ap (λ r. moved c.args.taken.now r.value) c.enter_end.ensures.only.readings) c.requires.calls)

-- so did those that it waits for
pub returns-then-not-stage_asked-clause-calls : goal.returns-then-not-stage_asked-clause-calls
returns-then-not-stage_asked-clause-calls g c =
    let before = c.args.self.now in
    let sends = sym (c.sends.ensures before.readings.value) ∙ c.if-sends.true in
    c.stage_asked.ensures.room _ (room_going_on before.dispatcher (moved c.args.taken.now before.readings.value) _ _ sends c.requires.calls)

pub returns-else-sends-clause-calls : goal.returns-else-sends-clause-calls
returns-else-sends-clause-calls g c =
    let before = c.args.self.now in
    let left = calls_left before.session.running in
    let P : RunningOperation g.row.G.Denot g.G.Naming → Type 0 = λ o. HasRoom left o.dispatcher in
    elim c.else-sends.branch [
      | else-sends-via-then-sends+else-not-stage_asked w ↦
          let sends = sym (c.sends.ensures before.readings.value) ∙ w.if-sends.true in
          subst P (sym w.self-is) (w.stage_asked.ensures.room left (room_going_on before.dispatcher (moved c.args.taken.now before.readings.value) _ _ sends c.requires.calls))
      | else-sends-via-else-sends w ↦ subst P (sym w.self-is) (room_for_fewer left _ before.dispatcher (omega arith) c.requires.calls)
    ]

-- what is asked for is sent
pub stage_asked-requires-clause-sends : goal.stage_asked-requires-clause-sends
stage_asked-requires-clause-sends g c = sym (c.sends.ensures c.args.self.now.readings.value) ∙ c.if-sends.true

-- so many were staged
pub returns-else-not-stage_discards-clause-sent : goal.returns-else-not-stage_discards-clause-sent
returns-else-not-stage_discards-clause-sent g c none =
    let before = c.args.self.now in
    let told = before.readings.value in
    let last = sym (c.is_last.ensures told) ∙ c.if-is_last.true in
    omega (arith, c.stage_discards.ensures.sent c.if-not-stage_discards.false told, ap (λ q. q.sent) c.enter_end.ensures.only.dispatcher, sent_at_end (moved c.args.taken.now told) (calls_waiting before.session.running) last)

pub returns-else-sends-clause-sent : goal.returns-else-sends-clause-sent
returns-else-sends-clause-sent g c none =
    let before = c.args.self.now in
    let told = before.readings.value in
    let move = moved c.args.taken.now told in
    let waiting = calls_waiting before.session.running in
    let P : RunningOperation g.row.G.Denot g.G.Naming → Type 0 = λ o. o.dispatcher.sent ≡ before.dispatcher.sent + calls_sent move waiting in
    elim c.else-sends.branch [
      | else-sends-via-then-sends+else-not-stage_asked w ↦
          let sends = sym (c.sends.ensures told) ∙ w.if-sends.true in
          subst P (sym w.self-is) (omega (arith, w.stage_asked.ensures.sent w.if-not-stage_asked.false, sent_on move waiting sends))
      | else-sends-via-else-sends w ↦
          let last = sym (c.is_last.ensures told) ∙ c.if-is_last.false in
          let sends = sym (c.sends.ensures told) ∙ w.if-sends.false in
          subst P (sym w.self-is) (omega (arith, none_sent move waiting last sends))
    ]

pub returns-then-not-stage_discards-clause-counted : goal.returns-then-not-stage_discards-clause-counted
returns-then-not-stage_discards-clause-counted g c = omega (arith, c.stage_discards.ensures.rest.counted, ap (λ q. q.sent) c.enter_end.ensures.only.dispatcher)

pub returns-else-not-stage_discards-clause-counted : goal.returns-else-not-stage_discards-clause-counted
returns-else-not-stage_discards-clause-counted g c = omega (arith, c.stage_discards.ensures.rest.counted, ap (λ q. q.sent) c.enter_end.ensures.only.dispatcher)

pub returns-else-sends-clause-counted : goal.returns-else-sends-clause-counted
returns-else-sends-clause-counted g c =
    let before = c.args.self.now in
    let P : RunningOperation g.row.G.Denot g.G.Naming → Type 0 = λ o. before.dispatcher.sent ≤ o.dispatcher.sent in
    elim c.else-sends.branch [
      | else-sends-via-then-sends+else-not-stage_asked w ↦ subst P (sym w.self-is) w.stage_asked.ensures.rest.counted
      | else-sends-via-else-sends w ↦ subst P (sym w.self-is) (omega arith)
    ]

-- and it goes on
pub returns-else-sends-clause-same : goal.returns-else-sends-clause-same
returns-else-sends-clause-same g c =
    let before = c.args.self.now in
    let P : RunningOperation g.row.G.Denot g.G.Naming → Type 0 = λ o. GoesOnAs before o in
    elim c.else-sends.branch [
      | else-sends-via-then-sends+else-not-stage_asked w ↦
          let rest = w.stage_asked.ensures.rest in
          subst P (sym w.self-is) (record { name = rest.name; first = rest.first; seen = rest.seen; mark = rest.mark })
      | else-sends-via-else-sends w ↦ subst P (sym w.self-is) (record { name = refl; first = refl; seen = prefix_of_itself before.seen; mark = refl })
    ]

pub returns-then-not-stage_discards-clause-same : goal.returns-then-not-stage_discards-clause-same
returns-then-not-stage_discards-clause-same g c =
    let only = c.enter_end.ensures.only in
    let rest = c.stage_discards.ensures.rest in
    record {
      name = rest.name ∙ only.name;
      first = rest.first ∙ only.first;
      seen = prefix_join _ _ _ (prefix_is _ _ (sym only.seen)) rest.seen;
      mark = rest.mark ∙ only.mark;
    }

pub returns-else-not-stage_discards-clause-same : goal.returns-else-not-stage_discards-clause-same
returns-else-not-stage_discards-clause-same g c =
    let only = c.enter_end.ensures.only in
    let rest = c.stage_discards.ensures.rest in
    record {
      name = rest.name ∙ only.name;
      first = rest.first ∙ only.first;
      seen = prefix_join _ _ _ (prefix_is _ _ (sym only.seen)) rest.seen;
      mark = rest.mark ∙ only.mark;
    }

-- what the move left stays
pub returns-then-not-stage_discards-clause-moves : goal.returns-then-not-stage_discards-clause-moves
returns-then-not-stage_discards-clause-moves g c =
    let rest = c.stage_discards.ensures.rest in
    moves_sent _ _ c.enter_end.new.self _ _ _ rest.session rest.entries rest.place rest.seen c.enter_end.ensures.moves

pub returns-else-not-stage_discards-clause-moves : goal.returns-else-not-stage_discards-clause-moves
returns-else-not-stage_discards-clause-moves g c =
    let rest = c.stage_discards.ensures.rest in
    moves_sent _ _ c.enter_end.new.self _ _ _ rest.session rest.entries rest.place rest.seen c.enter_end.ensures.moves

pub returns-then-not-stage_asked-clause-moves : goal.returns-then-not-stage_asked-clause-moves
returns-then-not-stage_asked-clause-moves g c =
    let before = c.args.self.now in
    let rest = c.stage_asked.ensures.rest in
    let going = sym (c.is_last.ensures before.readings.value) ∙ c.if-is_last.false in
    moves_sent _ _ before _ _ _ rest.session rest.entries rest.place rest.seen (moves_on c.args.taken.now before c.args.answer.now going)

pub returns-else-sends-clause-moves : goal.returns-else-sends-clause-moves
returns-else-sends-clause-moves g c =
    let before = c.args.self.now in
    let answer = c.args.answer.now in
    let going = sym (c.is_last.ensures before.readings.value) ∙ c.if-is_last.false in
    let same = moves_on c.args.taken.now before answer going in
    let P : RunningOperation g.row.G.Denot g.G.Naming → Type 0 = λ o. FollowsMove c.args.taken.now before answer o answer in
    elim c.else-sends.branch [
      | else-sends-via-then-sends+else-not-stage_asked w ↦
          let rest = w.stage_asked.ensures.rest in
          subst P (sym w.self-is) (moves_sent _ _ before w.stage_asked.new.self answer answer rest.session rest.entries rest.place rest.seen same)
      | else-sends-via-else-sends w ↦ subst P (sym w.self-is) same
    ]
