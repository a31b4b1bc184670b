-- How an operation went that began and took replies: for the function of a seat that runs it.
use Rattle.std.proofs.Common.{◌≡◌, ◌+◌, ◌∙◌, ℕ, List, Result, ap, arith, refl, subst, sym}
use Rattle.std.specs.Prelude.{IsNone, OnOk}
use Rattle.stamps.specs.Stamp.{stamp}
use Rattle.entry_list.specs.declared.kinds.Entry.{Entry}
use Rattle.plain_store.specs.declared.answer.Answer.{Answer}
use Rattle.plain_store.specs.Words.{Stamp}
use Rattle.history.specs.declared.rule.Naming.{Ghosts}
use Rattle.history.proofs.Lists.{prefix_join}
use Rattle.shard.specs.declared.jobs.Fault.{Fault}
use Rattle.tenant_sessions.specs.Held.{drawn_counter}
use Rattle.hub.specs.Operating.{Performs, StartsUnder, TakesReplies}
use Rattle.hub.specs.Replies.{IsDrawn, IsMoveFor, IsToldFor}
use Rattle.hub.specs.Requests.{intent_of}
use Rattle.hub.specs.Rooms.{awaited as to_come}
use Rattle.hub.specs.Seats.{EndsSo, Follows, outcome_of, told_by}
use Rattle.hub.specs.Sights.{OperationSight, operation_of, sight_of}
use Rattle.hub.specs.Taken.{replies_in}
use Rattle.hub.specs.declared.operation.RunningOperation.{RunningOperation}
use Rattle.hub.specs.declared.seat_request.SeatRequest.{SeatRequest}
use Rattle.hub.proofs.Entries.{ends_later, final_recorded, follows-same, follows-start, follows-told, on_ok, told-none, told-some, well_ended}
use Rattle.hub.proofs.Given.{operations, served-later, served-same, sights}
use Rattle.hub.proofs.Replies.{moves-begun, reads-begun, shows_since}

module _ {G : Type 0} {naming : Ghosts G} where
  pub performed : (parts takes : ℕ) (request : SeatRequest) (own : Stamp) (told : Result (Unit {0}) Fault) (old mid new : RunningOperation G naming) (between after : Answer) → told ≡ outcome_of new.fault new.place
      → StartsUnder parts request own old mid between → (EndsSo mid.place between → EndsSo new.place after) → (IsNone new.fault → to_come new.dispatcher ≡ 0) → TakesReplies takes own mid between new after
      → Performs parts takes request told old new after
  performed parts takes request own told old mid new between after ended starts ends none runs =
      let client = old.name.client in
      let drawn : Stamp = stamp (old.session.counter + 1) client in
      let Drawn : Stamp → Type 0 = IsDrawn client old.session.counter new.session.counter in
      let items = ap (λ e. e.items) starts.entries in
      let read_on = operation_of mid.name mid.mark mid.seen in
      let last = operation_of mid.name mid.mark new.seen in
      let sight : last ≡ operation_of old.name new.mark new.seen = operations mid.name old.name mid.mark new.mark new.seen new.seen starts.name (sym runs.goes_on.mark) refl in
      let said = told_by new.place after in
      let follows : Follows old.entries.items said new.entries.items =
      runs.entered old.entries.items
      (follows-told old.entries.items _ _ mid.entries.items (sym (told-none mid.place between starts.place))
      (follows-same old.entries.items _ old.entries.items mid.entries.items items (follows-start old.entries.items))) in
      let P : OperationSight → Type 0 = λ v. IsToldFor v parts Drawn request after old.entries.items new.entries.items in
      let Q : List Entry → Type 0 = λ es. IsToldFor last parts Drawn request after es new.entries.items in
      let R : OperationSight → Type 0 = λ v. IsMoveFor v parts drawn request after old.entries.items new.entries.items in
      let S : List Entry → Type 0 = λ es. IsMoveFor last parts drawn request after es new.entries.items in
      let begun = starts.begun in
      let read : OnOk told (IsToldFor (operation_of old.name new.mark new.seen) parts Drawn request after old.entries.items new.entries.items) =
      well_ended _ _ _ told ended
      (λ well done. subst P sight (subst Q items
      (reads-begun read_on last parts drawn Drawn request (intent_of drawn request) old.session mid.session new.session mid.entries.items new.entries.items mid.place new.place between after
      (λ list is.
      let counted = ap drawn_counter is in
      (refl, omega (arith, counted, begun.counter, runs.counter)))
      refl starts.passed (λ setup same may. begun.shown setup same) (λ setup start reads. runs.read setup (intent_of drawn request) start starts.stamped reads) starts.place done))) in
      record {
        answered = well_ended _ _ _ told ended (λ well done. follows-told old.entries.items _ _ new.entries.items (told-some new.place after done) follows);
        few = omega (arith, runs.few, ap replies_in items);
        recorded = well_ended _ _ _ told ended (λ well done. final_recorded new.place after done (ends (ends_later mid.place between starts.place)));
        read = read;
        moved = well_ended _ _ _ told ended
            (λ well done. subst R sight (subst S items
            (moves-begun read_on last parts drawn request old.session mid.session.running new.session.running mid.entries.items new.entries.items mid.place new.place between after
            starts.passed (λ setup same may. begun.shown setup same) (λ setup start reads. runs.read setup (intent_of drawn request) start starts.stamped reads) starts.place done)));
        counter = omega (arith, begun.counter, runs.counter);
        served = λ start are.
            let sent = ap (λ q. q.sent) starts.dispatcher in
            served-same (sight_of mid.name new.seen) (sight_of old.name new.seen) mid.first old.first (mid.first + new.dispatcher.sent) (old.first + new.dispatcher.sent) start new.entries.items new.entries.items
            (sights _ _ _ _ (sym starts.name) refl) (sym starts.first) (omega (arith, starts.first)) refl
            (runs.served start
            (served-same (sight_of old.name mid.seen) (sight_of mid.name mid.seen) old.first mid.first (old.first + old.dispatcher.sent) (mid.first + mid.dispatcher.sent) start old.entries.items mid.entries.items
            (sights _ _ _ _ starts.name refl) starts.first (omega (arith, starts.first, sent)) items
            (served-later (sight_of old.name old.seen) (sight_of old.name mid.seen) old.first (old.first + old.dispatcher.sent) start old.entries.items (record { tenant = refl; seat = refl; seen = starts.seen }) are)));
        awaited = λ zero. well_ended _ _ _ told ended (λ well done. none well);
        entered = (said, follows);
        since = on_ok _ _
            (λ is.
            shows_since old.name (operation_of old.name new.mark new.seen) parts Drawn request after old.entries.items new.entries.items mid.mark new.mark old.seen mid.seen new.seen starts.since runs.goes_on.seen runs.goes_on.mark is)
            told read;
        goes_on = record {
          name = runs.goes_on.name ∙ starts.name;
          first = runs.goes_on.first ∙ starts.first;
          seen = prefix_join _ _ _ starts.seen runs.goes_on.seen;
        };
      }

  -- where it ended otherwise, in the same words
  pub performed_so : (parts takes : ℕ) (request : SeatRequest) (told : Result (Unit {0}) Fault) (old new : RunningOperation G naming) (answer : Answer) → told ≡ outcome_of new.fault new.place
      → Performs parts 0 request (outcome_of new.fault new.place) old new answer → Performs parts takes request told old new answer
  performed_so parts takes request told old new answer ended over =
      let P : Result (Unit {0}) Fault → Type 0 = λ r. Performs parts 0 request r old new answer in
      let its = subst P (sym ended) over in
      record {
        answered = its.answered;
        few = omega (arith, its.few);
        recorded = its.recorded;
        read = its.read;
        moved = its.moved;
        counter = its.counter;
        served = its.served;
        awaited = its.awaited;
        entered = its.entered;
        since = its.since;
        goes_on = its.goes_on;
      }

  -- in other words
  pub performed_as : (parts takes : ℕ) (request : SeatRequest) (told : Result (Unit {0}) Fault) (old now ran : RunningOperation G naming) (answer said : Answer) → now ≡ ran → answer ≡ said → told ≡ outcome_of now.fault now.place
      → (told ≡ outcome_of ran.fault ran.place → Performs parts takes request told old ran said) → Performs parts takes request told old now answer
  performed_as parts takes request told old now ran answer said same says ended made =
      let P : RunningOperation G naming → Type 0 = λ o. Performs parts takes request told old o said in
      let Q : Answer → Type 0 = λ a. Performs parts takes request told old now a in
      subst Q (sym says) (subst P (sym same) (made (ended ∙ ap (λ o. outcome_of o.fault o.place) same)))
