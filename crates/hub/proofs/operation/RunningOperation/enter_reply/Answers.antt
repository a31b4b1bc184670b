use Rattle.std.proofs.Common.{◌≡◌, ◌∙◌, ℕ, List, Ok, Option, Some, refl, sym, ap, arith, subst}
use Rattle.std.proofs.Math.Logic.{∥∥₁_map, ∥∥₁_map₂}
use Rattle.plain_store.specs.History.{Intent as Asked}
use Rattle.history.specs.declared.entry.HistoryEntry.{HistoryEntry}
use Rattle.history.proofs.Lists.{prefix_join}
use Rattle.shard.specs.declared.seat_name.SeatName.{SeatName}
use Rattle.tenant_sessions.specs.Moves.{moved}
use Rattle.hub.specs.Evidence.{IsUnderWay, MayBeDecided}
use Rattle.hub.specs.Seats.{EndsSo, spare, told_by}
use Rattle.hub.specs.declared.operation.AnswerRoom.{AnswerRoom}
use Rattle.entry_list.specs.declared.kinds.Entry.TheVariants.{Took}
use Rattle.hub.proofs.Evidence.{under_way_decided, under_way_on}
use Rattle.plain_store.specs.declared.message.Message.{Message}
use Rattle.tenant_sessions.specs.CallsLeft.{calls_left}
use Rattle.tenant_sessions.specs.Showing.{IsTakenFor}
use Rattle.hub.proofs.Rooms.{room_stays}
use Rattle.tenant_sessions.specs.declared.session.ClientSession.{ClientSession}
use Rattle.hub.proofs.Entries.{follows-took, told-same, follows-told, follows-same}
use Rattle.hub.proofs.Taking.{replies-more}
use Rattle.hub.proofs.Given.{came-taken, prefix_is, served-same, served-took, sights}
use Rattle.hub.specs.Sights.{operation_of, sight_of}
use Rattle.hub.specs.Replies.{IsUnder, IsOf, IsStampOf}
use Rattle.hub.proofs.Replies.{reads-served, under-asked}
use Rattle.hub.proofs.operation.RunningOperation.enter_reply.Goals as goal

pub returns-clause-takes : goal.returns-clause-takes
returns-clause-takes g c =
    let before = c.args.self.now in
    let answer = c.args.answer.now in
    let reply = c.args.reply.now in
    let kept = c.push_took.new.self in
    let only = c.push_took.ensures.only in
    let took = c.push_took.ensures.took in
    let place = c.push_took.ensures.place in
    let moves = c.follow.ensures.moves in
    let same = c.follow.ensures.same in
    let is : reply.outcome ≡ Ok c.in-Ok.place = cc in
    let has : reply.message.value.reply ≡ Some c.in-Some.told = cc in
    record {
      room = omega (arith, c.push_took.ensures.room, ap spare place, moves.room);
      replies = omega (arith, moves.replies, replies-more before.entries.items kept.entries.items _ took);
      ends = λ was. moves.ends (subst (λ (p : Option AnswerRoom). EndsSo p answer) (sym place) was);
      entered = λ start follows.
          moves.entered start
          (follows-told start _ _ kept.entries.items (told-same before.place kept.place answer place)
          (follows-same start _ _ kept.entries.items took (follows-took start _ before.entries.items _ refl refl follows)));
      read = λ name setup asked start stamped its own marked pre reads.
          let under : IsUnder c.args.own c.deref-message.result.now.call = c.is_under.ensures.0 c.if-not-is_under.false in
          let of : IsOf asked reply.message.value.call = under-asked c.args.own asked _ stamped (subst (λ (m : Message). IsUnder c.args.own m.call) c.deref-message.ensures under) in
          let at : reply.message.value.partition ≡ reply.partition = subst (λ (m : Message). m.partition ≡ reply.partition) c.deref-message.ensures c.if-message-reply.false in
          let enters = λ (m : Message) (same : IsTakenFor c.deref-message.result.now m).
          came-taken name reply.front reply.mark asked reply.partition reply.tenant reply.seat reply.number c.in-Ok.place reply.message.value m reply.outcome _ pre is has its own marked reply.came of at
          (subst (λ (from : Message). IsTakenFor from m) c.deref-message.ensures same) in
          let served = reads-served name setup asked start before.entries.items kept.entries.items before.session kept.session c.move_into.new.self before.place kept.place answer _ _ _ _ _ _
          took only.session place enters c.move_into.ensures.shown reads in
          moves.read name setup asked start served.0 served.1 served.2;
      served = λ first last start its own pre behind up_to are.
          let one = sight_of before.name before.seen in
          let between = sight_of kept.name kept.seen in
          served-same (sight_of kept.name c.follow.new.self.seen) (sight_of before.name c.follow.new.self.seen) first first last last start c.follow.new.self.entries.items c.follow.new.self.entries.items
          (sights _ _ _ _ (sym only.name) refl) refl (omega arith) refl
          (moves.served first last start
          (served-took between one reply.front reply.mark first last start before.entries.items kept.entries.items reply.partition reply.tenant reply.seat reply.number c.in-Ok.place reply.message.value reply.outcome _
          pre took (sights _ _ _ _ only.name only.seen) is has its own behind up_to reply.came are));
      -- the calls that the move asks for are sent after those before
      sent = omega (arith, ap (λ q. q.sent) only.dispatcher, c.follow.ensures.counted);
      counter = omega (arith, ap (λ (s : ClientSession). s.counter) only.session, ap (λ (s : ClientSession). s.counter) c.follow.ensures.session, c.move_into.ensures.counter);
      goes_on = record {
        name = same.name ∙ only.name;
        first = same.first ∙ only.first;
        seen = prefix_join _ _ _ (prefix_is _ _ (sym only.seen)) same.seen;
        mark = same.mark ∙ only.mark;
      };
    }

-- what was under way is, with what is seen now
pub returns-clause-under_way : goal.returns-clause-under_way
returns-clause-under_way g c =
    let before = c.args.self.now in
    let seen = prefix_join _ _ _ (prefix_is _ _ (sym c.push_took.ensures.only.seen)) c.follow.ensures.same.seen in
    let now = operation_of before.name before.mark c.follow.new.self.seen in
    ∥∥₁_map c.requires.under_way
    (under_way_on (operation_of before.name before.mark before.seen) now c.args.own _ _ _ _ _ _ (record { tenant = refl; seat = refl; mark = refl; seen = seen })
    (λ setup asked start stamped reads.
    (returns-clause-takes g c).read now setup asked start stamped c.requires.own.0 c.requires.own.1 c.requires.own.2 (prefix_join _ _ _ c.requires.own.3 seen) reads))

-- where the move is that the put is decided, it may be
pub follow-requires-clause-decided : goal.follow-requires-clause-decided
follow-requires-clause-decided g c stamp is =
    let before = c.args.self.now in
    let reply = c.args.reply.now in
    let is-served : reply.outcome ≡ Ok c.in-Ok.place = cc in
    let kept = c.push_took.new.self in
    let sight = operation_of before.name before.mark before.seen in
    let has : reply.message.value.reply ≡ Some c.in-Some.told = cc in
    let under : IsUnder c.args.own c.deref-message.result.now.call = c.is_under.ensures.0 c.if-not-is_under.false in
    let under_own : IsUnder c.args.own reply.message.value.call = subst (λ (m : Message). IsUnder c.args.own m.call) c.deref-message.ensures under in
    let at : reply.message.value.partition ≡ reply.partition = subst (λ (m : Message). m.partition ≡ reply.partition) c.deref-message.ensures c.if-message-reply.false in
    let enters = λ (asked : Asked) (stamped : IsStampOf c.args.own asked) (m : Message) (same : IsTakenFor c.deref-message.result.now m).
    came-taken sight reply.front reply.mark asked reply.partition reply.tenant reply.seat reply.number c.in-Ok.place reply.message.value m reply.outcome _ c.requires.own.3 is-served has c.requires.own.0 c.requires.own.1 c.requires.own.2 reply.came
    (under-asked c.args.own asked _ stamped under_own) at (subst (λ (from : Message). IsTakenFor from m) c.deref-message.ensures same) in
    let Q : ClientSession → Type 0 = λ s. IsUnderWay sight c.args.own before.entries.items s.running (told_by before.place c.args.answer.now) in
    let P : ℕ → Type 0 = λ t. MayBeDecided before.seen t stamp in
    let R : List HistoryEntry → Type 0 = λ l. MayBeDecided l kept.name.tenant stamp in
    ∥∥₁_map₂ c.requires.under_way before.legal (λ u legal.
    subst R (sym c.push_took.ensures.only.seen) (subst P (sym (ap (λ (n : SeatName). n.tenant) c.push_took.ensures.only.name))
    (under_way_decided sight c.args.own before.entries.items kept.session.running _ _ c.deref-message.result.now _ (Took reply.number reply.partition c.in-Ok.place c.in-Some.told) stamp legal enters c.move_into.ensures.shown (ap (λ k. moved k c.move_into.new.readings) is)
    (subst Q (sym c.push_took.ensures.only.session) u))))

-- what the move sends, it may send
pub follow-requires-clause-calls : goal.follow-requires-clause-calls
follow-requires-clause-calls g c =
    let before = ap (λ (s : ClientSession). calls_left s.running) c.push_took.ensures.only.session in
    room_stays c.args.self.now.dispatcher c.push_took.new.self.dispatcher _ _ c.push_took.ensures.only.dispatcher (omega (arith, before, c.move_into.ensures.calls)) c.requires.calls
