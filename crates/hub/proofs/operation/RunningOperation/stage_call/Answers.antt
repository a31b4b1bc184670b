use Rattle.std.proofs.Common.{◌+◌, ap, arith, refl, sym, ◌∙◌, Some, None}
use Rattle.std.specs.Prelude.{if◌then◌else◌}
use Rattle.std.specs.VecDeque.{deque_len}
use Rattle.shard.specs.Asked.{without_reply}
use Rattle.std.proofs.Math.Logic.{∥∥₁_map}
use Rattle.plain_store.specs.Writing.{Outgoing}
use Rattle.history.specs.Legal.{IsOfPut}
use Rattle.tenant_sessions.specs.Parts.{outgoing_of}
use Rattle.tenant_sessions.specs.Sending.{waiting_of}
use Rattle.hub.proofs.Evidence.{all_got}
use Rattle.hub.proofs.Behind.{next-same}
use Rattle.hub.proofs.Rooms.{places_with}
use Rattle.hub.proofs.operation.RunningOperation.stage_call.Goals as goal

pub stage-requires-clause-places : goal.stage-requires-clause-places
stage-requires-clause-places g c = places_with _ _ refl refl refl refl 1 c.requires.room.there

-- it is one of those that the session waits for
pub stage-requires-clause-put : goal.stage-requires-clause-put
stage-requires-clause-put g c =
    let self = c.args.self.now in
    let place = c.call_over-is_made.new.place in
    let told = ap (λ b. if b then Some (outgoing_of place) else None) c.if-prove.false in
    let P : Outgoing → Type 0 = λ out. IsOfPut self.seen self.name.tenant out.call in
    ∥∥₁_map c.requires.puts (λ all. all_got P (waiting_of self.session.running) c.args.nth (outgoing_of place) all (sym c.call_over-is_made.ensures.there ∙ told))

pub returns-clause-room : goal.returns-clause-room
returns-clause-room g c calls room = record {
  boxes = omega (arith, room.boxes, c.take-message.ensures, ap (λ p. deque_len p.boxes) c.stage.ensures.pool);
  there = c.stage.ensures.room calls (places_with _ _ refl refl refl refl (1 + calls) room.there);
}

-- it is the one that the session waits for at this place
pub returns-clause-staged : goal.returns-clause-staged
returns-clause-staged g c setup asked taken running is stands =
    let made = c.call_over-is_made.ensures in
    let told = ap (λ b. if b then Some (without_reply c.call_over-is_made.new.place) else None) c.if-prove.false in
    next-same _ _ _ _ _ _ _ _ _ _ _ refl refl refl (sym told ∙ made.told setup asked taken running is stands)
    refl c.stage.ensures.staged
