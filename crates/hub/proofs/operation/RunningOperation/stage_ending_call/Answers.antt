use Rattle.std.proofs.Common.{◌+◌, ap, arith, refl, sym, ◌∙◌, Some, None}
use Rattle.std.specs.Prelude.{if◌then◌else◌}
use Rattle.std.specs.VecDeque.{deque_len}
use Rattle.tenant_sessions.specs.Moves.{ending, moved}
use Rattle.hub.proofs.Evidence.{put_at}
use Rattle.hub.proofs.Behind.{next-same}
use Rattle.hub.proofs.Rooms.{places_with}
use Rattle.hub.proofs.operation.RunningOperation.stage_ending_call.Goals as goal

pub stage-requires-clause-places : goal.stage-requires-clause-places
stage-requires-clause-places g c = places_with _ _ refl refl refl refl 1 c.requires.room.there

-- it is one of those that are sent at the end
pub stage-requires-clause-put : goal.stage-requires-clause-put
stage-requires-clause-put g c =
    let self = c.args.self.now in
    let place = c.ending_into-is_made.new.place in
    let told = self.readings.value in
    let made = ap (λ b. if b then Some place else None) c.if-prove.false in
    ∣ put_at self.seen self.name.tenant self.name.client c.args.ticket c.args.nth (ending (moved c.args.taken.now told)) place c.requires.puts (sym (c.ending_into-is_made.ensures.told told) ∙ made) ∣₁

pub returns-clause-room : goal.returns-clause-room
returns-clause-room g c calls room = record {
  boxes = omega (arith, room.boxes, c.take-message.ensures, ap (λ p. deque_len p.boxes) c.stage.ensures.pool);
  there = c.stage.ensures.room calls (places_with _ _ refl refl refl refl (1 + calls) room.there);
}

-- it is the one at this place
pub returns-clause-staged : goal.returns-clause-staged
returns-clause-staged g c told =
    let message = c.ending_into-is_made.new.place in
    let made = ap (λ b. if b then Some message else None) c.if-prove.false in
    let bare = ap (λ reply. Some (record message { reply = reply })) (sym (c.ending_into-is_made.ensures.reply c.if-prove.false)) in
    next-same _ _ _ _ _ _ _ _ _ _ _ refl refl refl (bare ∙ sym made ∙ c.ending_into-is_made.ensures.told told)
    refl c.stage.ensures.staged
