-- What an operation leaves from step to step: for the functions that follow a move, or take replies.
use Rattle.std.proofs.Common.{◌≡◌, ◌≤◌, ◌+◌, ◌∙◌, ℕ, [], List, Option, true, false, ap, arith, refl, subst, sym}
use Rattle.std.specs.Prelude.{IsNone}
use Rattle.std.proofs.lemmas.List.{append-nil}
use mathlib.Core.List.{IsPrefix}
use Rattle.entry_list.specs.declared.kinds.Entry.{Entry}
use Rattle.plain_store.specs.declared.answer.Answer.{Answer}
use Rattle.plain_store.specs.History.{Intent as Asked}
use Rattle.plain_store.specs.Words.{Setup, Stamp}
use Rattle.history.specs.declared.rule.Naming.{Ghosts}
use Rattle.history.proofs.Lists.{prefix_join}
use Rattle.shard.specs.declared.jobs.SeatReply.{SeatReply}
use Rattle.tenant_sessions.specs.Moves.{is_last, moved}
use Rattle.tenant_sessions.specs.declared.moves.MoveKind.{MoveKind}
use Rattle.tenant_sessions.specs.declared.running.Running.{Running}
use Rattle.tenant_sessions.specs.declared.session.ClientSession.{ClientSession}
use Rattle.hub.specs.Operating.{EntersReply, FollowsMove, TakesReplies}
use Rattle.hub.specs.Replies.{Reads}
use Rattle.hub.specs.Seats.{EndsSo, Extends, spare, told_by}
use Rattle.hub.specs.Sights.{OperationSight, operation_of, sight_of}
use Rattle.hub.specs.Taken.{replies_in}
use Rattle.hub.specs.declared.operation.AnswerRoom.{AnswerRoom}
use Rattle.hub.specs.declared.operation.RunningOperation.{RunningOperation}
use Rattle.hub.proofs.Entries.{follows-same, follows-told}
use Rattle.hub.proofs.Given.{IsStagedOn, operations, prefix_is, served-later, served-same, sights}

-- what was read of a request, in other words
reads_same : (sight other : OperationSight) (setup : Setup) (asked : Asked) (start entries next : List Entry) (running after : Option Running) (told also : Option Answer) → other ≡ sight → next ≡ entries → after ≡ running → also ≡ told
    → Reads sight setup asked start entries running told → Reads other setup asked start next after also
reads_same sight other setup asked start entries next running after told also seat entered runs answered reads =
    let P : OperationSight → Type 0 = λ v. Reads v setup asked start entries running told in
    let Q : List Entry → Type 0 = λ es. Reads other setup asked start es running told in
    let R : Option Running → Type 0 = λ r. Reads other setup asked start next r told in
    let S : Option Answer → Type 0 = λ a. Reads other setup asked start next after a in
    subst S (sym answered) (subst R (sym runs) (subst Q (sym entered) (subst P (sym seat) reads)))

module _ {G : Type 0} {naming : Ghosts G} where
  -- a move that is not the last leaves all as it is
  pub moves_on : (taken : MoveKind) (old : RunningOperation G naming) (answer : Answer) → is_last (moved taken old.readings.value) ≡ false → FollowsMove taken old answer old answer
  moves_on taken old answer going = record {
    answered = λ last. let both : true ≡ false = sym last ∙ going in absurd cc;
    told = λ rows some last. let both : true ≡ false = sym last ∙ going in absurd cc;
    goes_on = λ same. refl;
    replies = refl;
    room = omega arith;
    ends = λ was. was;
    entered = λ start follows. follows;
    read = λ sight setup asked start reads tells moves. reads;
    kept = ([], sym (append-nil old.entries.items));
    served = λ first last start are. are;
  }

  -- and calls that are sent behind it enter nothing
  pub moves_sent : (taken : MoveKind) (old mid new : RunningOperation G naming) (before after : Answer) → new.session ≡ mid.session → new.entries ≡ mid.entries → new.place ≡ mid.place → IsPrefix mid.seen new.seen
      → FollowsMove taken old before mid after → FollowsMove taken old before new after
  moves_sent taken old mid new before after session entries place seen moves =
      let items = ap (λ e. e.items) entries in
      let room = ap (λ e. e.room) entries in
      let told = ap (λ p. told_by p after) place in
      let spared = ap spare place in
      record {
        answered = λ last. subst (λ (p : Option AnswerRoom). IsNone p) (sym place) (moves.answered last);
        told = moves.told;
        goes_on = λ going. entries ∙ moves.goes_on going;
        replies = ap replies_in items ∙ moves.replies;
        room = omega (arith, moves.room, room, spared);
        ends = λ was. subst (λ (p : Option AnswerRoom). EndsSo p after) (sym place) (moves.ends was);
        entered = λ start follows. follows-told start _ _ new.entries.items (sym told) (follows-same start _ mid.entries.items new.entries.items items (moves.entered start follows));
        read = λ sight setup asked start reads tells by.
            reads_same sight sight setup asked start mid.entries.items new.entries.items mid.session.running new.session.running _ _ refl items (ap (λ (s : ClientSession). s.running) session) told
            (moves.read sight setup asked start reads tells by);
        kept = subst (λ (es : List Entry). Extends old.entries.items es) (sym items) moves.kept;
        served = λ first last start are.
            let later = served-later (sight_of old.name mid.seen) (sight_of old.name new.seen) first last start mid.entries.items (record { tenant = refl; seat = refl; seen = seen }) (moves.served first last start are) in
            served-same (sight_of old.name new.seen) (sight_of old.name new.seen) first first last last start mid.entries.items new.entries.items refl refl (omega arith) items later;
      }

  -- calls that are staged take no reply, and enter nothing
  pub runs_begun : (takes : ℕ) (own : Stamp) (old staged : RunningOperation G naming) (answer : Answer) → IsStagedOn old staged → TakesReplies takes own old answer staged answer
  runs_begun takes own old staged answer (name, first, sent, entries, seen, session, place, mark) =
      let items = ap (λ e. e.items) entries in
      let told = ap (λ p. told_by p answer) place in
      record {
        few = omega (arith, ap replies_in items);
        entered = λ start follows. follows-told start _ _ staged.entries.items (sym told) (follows-same start _ old.entries.items staged.entries.items items follows);
        read = λ setup asked start stamped reads.
            reads_same (operation_of old.name old.mark old.seen) (operation_of old.name old.mark staged.seen) setup asked start old.entries.items staged.entries.items old.session.running staged.session.running _ _
            (operations old.name old.name _ _ _ _ refl refl seen) items (ap (λ (s : ClientSession). s.running) session) told reads;
        served = λ start are.
            served-same _ _ old.first old.first (old.first + old.dispatcher.sent) (old.first + staged.dispatcher.sent) start old.entries.items staged.entries.items (sights old.name old.name _ _ refl seen) refl (omega (arith, sent)) items are;
        counter = omega (arith, ap (λ (s : ClientSession). s.counter) session);
        goes_on = record { name = name; first = first; seen = prefix_is _ _ (sym seen); mark = mark };
      }

  -- a reply that is not entered leaves all but the fault
  pub enters_none : (own : Stamp) (reply : SeatReply G naming) (old new : RunningOperation G naming) (answer : Answer) → new.name ≡ old.name → new.first ≡ old.first → new.dispatcher ≡ old.dispatcher → new.session ≡ old.session
      → new.entries ≡ old.entries → new.place ≡ old.place → new.seen ≡ old.seen → new.mark ≡ old.mark → EntersReply own reply old answer new answer
  enters_none own reply old new answer name first dispatcher session entries place seen mark =
      let items = ap (λ e. e.items) entries in
      let told = ap (λ p. told_by p answer) place in
      record {
        room = omega (arith, ap (λ e. e.room) entries, ap spare place);
        replies = omega (arith, ap replies_in items);
        ends = λ was. subst (λ (p : Option AnswerRoom). EndsSo p answer) (sym place) was;
        entered = λ start follows. follows-told start _ _ new.entries.items (sym told) (follows-same start _ old.entries.items new.entries.items items follows);
        read = λ sight setup asked start stamped its own marked pre reads.
            reads_same sight sight setup asked start old.entries.items new.entries.items old.session.running new.session.running _ _ refl items (ap (λ (s : ClientSession). s.running) session) told reads;
        served = λ since last start its own pre behind up_to are.
            served-same (sight_of old.name old.seen) (sight_of old.name new.seen) since since last last start old.entries.items new.entries.items (sights old.name old.name _ _ refl seen) refl (omega arith) items are;
        sent = omega (arith, ap (λ q. q.sent) dispatcher);
        counter = omega (arith, ap (λ (s : ClientSession). s.counter) session);
        goes_on = record { name = name; first = first; seen = prefix_is _ _ (sym seen); mark = mark };
      }

  -- all that is said of it stays, but for what is on its way
  abbrev pub LeavesRest : (old new : RunningOperation G naming) → Type 0
  LeavesRest old new =
      (new.name ≡ old.name) × (new.first ≡ old.first) × (new.entries ≡ old.entries) × (new.seen ≡ old.seen) × (new.session ≡ old.session) × (new.place ≡ old.place) × (new.mark ≡ old.mark)
      × (old.dispatcher.sent ≤ new.dispatcher.sent)

  pub runs_as : (takes : ℕ) (own : Stamp) (old mid new : RunningOperation G naming) (before after : Answer) → LeavesRest mid new → TakesReplies takes own old before mid after → TakesReplies takes own old before new after
  runs_as takes own old mid new before after (name, first, entries, seen, session, place, mark, sent) runs =
      let items = ap (λ e. e.items) entries in
      let told = ap (λ p. told_by p after) place in
      let so_far = runs.goes_on in
      record {
        few = omega (arith, runs.few, ap replies_in items);
        entered = λ start follows. follows-told start _ _ new.entries.items (sym told) (follows-same start _ mid.entries.items new.entries.items items (runs.entered start follows));
        read = λ setup asked start stamped reads.
            reads_same (operation_of old.name old.mark mid.seen) (operation_of old.name old.mark new.seen) setup asked start mid.entries.items new.entries.items mid.session.running new.session.running _ _
            (operations old.name old.name _ _ _ _ refl refl seen) items (ap (λ (s : ClientSession). s.running) session) told (runs.read setup asked start stamped reads);
        served = λ start are.
            served-same _ _ old.first old.first (old.first + mid.dispatcher.sent) (old.first + new.dispatcher.sent) start mid.entries.items new.entries.items (sights old.name old.name _ _ refl seen) refl (omega (arith, sent)) items (runs.served start are);
        counter = omega (arith, runs.counter, ap (λ (s : ClientSession). s.counter) session);
        goes_on = record { name = name ∙ so_far.name; first = first ∙ so_far.first; seen = prefix_join _ _ _ so_far.seen (prefix_is _ _ (sym seen)); mark = mark ∙ so_far.mark };
      }
