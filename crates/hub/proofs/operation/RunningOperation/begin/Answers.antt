use Rattle.std.proofs.Common.{ℕ, List, Option, None, Result, sym, ap, subst, ◌∙◌, ◌+◌, refl, arith}
use Rattle.std.specs.Prelude.{IsNone}
use Rattle.stamps.specs.Stamp.{stamp}
use Rattle.plain_store.specs.Words.{Stamp}
use Rattle.plain_store.specs.History.{Intent}
use Rattle.plain_store.specs.declared.answer.Answer.TheVariants.{Refused}
use Rattle.history.specs.declared.entry.HistoryEntry.{HistoryEntry}
use Rattle.shard.specs.declared.jobs.Fault.{Fault}
use Rattle.tenant_sessions.specs.declared.session.ClientSession.{ClientSession}
use Rattle.hub.specs.Evidence.{HasBegunIn}
use Rattle.hub.specs.Replies.{AreServed}
use Rattle.hub.specs.Requests.{intent_of}
use Rattle.hub.specs.Seats.{outcome_of}
use Rattle.hub.specs.Sights.{operation_of, sight_of}
use Rattle.hub.proofs.Entries.{answered-outcome, follows-start, if_well, spare_there, told-none}
use Rattle.hub.proofs.Evidence.{begun_of_puts, intent_drawn, stamp_drawn, under_way_begun, under_way_same}
use Rattle.hub.proofs.Given.{prefix_is, served-answered, served-later}
use Rattle.hub.proofs.Refusals.{refused-inside, apart, same_refusal}
use Rattle.hub.proofs.Replies.{moves-refused, reads-refused, may_begin, shows_refused, stamp-begun}
use Rattle.hub.proofs.Rooms.{room_for_fewer, makes_room}
use Rattle.hub.proofs.operation.RunningOperation.begin.Goals as goal

pub returns-in-Some-clause-begun : goal.returns-in-Some-clause-begun
returns-in-Some-clause-begun g c =
    let before = c.args.self.now in
    let client = before.name.client in
    let own : Stamp = stamp (before.session.counter + 1) client in
    let told = c.last_stamp-own.result in
    let seen = c.enter_begun.new.seen in
    let request = c.args.request.now in
    let asked : Intent = intent_of own request in
    let begun = c.in-Ok.ensures.begun in
    let drawn = stamp_drawn before.session.counter c.start.new.session.counter client told asked c.last_stamp-own.ensures.client c.last_stamp-own.ensures.value begun.counter in
    let P : Intent → Type 0 = λ asked. HasBegunIn seen before.name.tenant asked in
    let began = subst P (intent_drawn own told request drawn) c.in-Some.ensures.began in
    let may = may_begin before.session request asked own refl c.in-Ok.ensures.passed in
    let stamped = stamp-begun own told request asked refl drawn in
    record {
      passed = c.in-Ok.ensures.passed;
      begun = begun;
      stamped = stamped;
      since = c.in-Some.ensures.since;
      -- it is under way, and the calls that it sends first are of the put that was entered, if it is one
      under_way = ∣ under_way_same _ _ told _ _ _ _ _ _ refl refl refl (told-none before.place c.args.answer.now c.requires.place)
          (under_way_begun (operation_of before.name c.in-Some.mark seen) c.args.parts told asked before.session c.start.new.session before.entries.items begun stamped may began) ∣₁;
      puts = ∣ begun_of_puts seen before.name.tenant c.args.parts asked before.session c.start.new.session begun began ∣₁;
      -- it sends no more than there was made room for
      calls = room_for_fewer _ _ before.dispatcher (omega (arith, begun.calls, makes_room c.args.parts own request asked refl may)) c.requires.calls;
      room = omega (arith, c.requires.room, spare_there before.place c.requires.place);
      place = c.requires.place;
      name = refl;
      first = refl;
      entries = refl;
      dispatcher = refl;
      seen = c.enter_begun.ensures.later;
    }

-- the session refused it, and nothing was sent
pub returns-in-Err-clause-over : goal.returns-in-Err-clause-over
returns-in-Err-clause-over g c =
    let before = c.args.self.now in
    let now = c.enter_answer.new.self in
    let entered = c.enter_answer.ensures in
    let request = c.args.request.now in
    let refusal = c.in-Err.refusal in
    let sight = operation_of before.name now.mark now.seen in
    let told : Result (Unit {0}) Fault = outcome_of now.fault now.place in
    let follows = entered.entered before.entries.items (follows-start before.entries.items) in
    record {
      answered = if_well _ told follows;
      few = omega (arith, entered.replies);
      recorded = if_well _ told (rw c.tell_refusal.ensures (refused-inside before.session request refusal before.opened c.in-Err.ensures.refused));
      read = if_well _ told (reads-refused sight c.args.parts _ request refusal _ _ _ c.tell_refusal.ensures);
      moved = if_well _ told (moves-refused sight c.args.parts _ request refusal _ _ _ c.tell_refusal.ensures);
      counter = omega (arith, ap (λ (s : ClientSession). s.counter) entered.only.session, ap (λ (s : ClientSession). s.counter) c.in-Err.ensures.unchanged);
      served = λ start are.
          let first = before.first in
          let Q : ℕ → Type 0 = λ n. AreServed (sight_of before.name now.seen) first (first + n) start now.entries.items in
          let R : List HistoryEntry → Type 0 = λ s. AreServed (sight_of before.name s) first (first + before.dispatcher.sent) start now.entries.items in
          subst Q (sym (ap (λ q. q.sent) entered.only.dispatcher))
          (subst R (sym entered.only.seen) (served-answered (sight_of before.name before.seen) first _ start before.entries.items now.entries.items c.tell_refusal.new.answer entered.answer are));
      awaited = λ none. if_well _ told (ap (λ q. q.served + q.queued) entered.only.dispatcher ∙ none);
      entered = (_, follows);
      since = if_well _ told (shows_refused request refusal _ _ c.tell_refusal.ensures);
      goes_on = record { name = entered.only.name; first = entered.only.first; seen = prefix_is _ _ (sym entered.only.seen) };
    }

-- it was not entered, and nothing was sent
pub returns-in_default-clause-over : goal.returns-in_default-clause-over
returns-in_default-clause-over g c =
    let before = c.args.self.now in
    record {
      answered = tt;
      few = omega arith;
      recorded = tt;
      read = tt;
      moved = tt;
      counter = omega (arith, c.in-Ok.ensures.begun.counter);
      served = λ start are.
          served-later (sight_of before.name before.seen) (sight_of before.name c.enter_begun.new.seen) before.first _ start before.entries.items (record { tenant = refl; seat = refl; seen = c.enter_begun.ensures.later }) are;
      awaited = λ none. tt;
      entered = (None, follows-start before.entries.items);
      since = tt;
      goes_on = record { name = refl; first = refl; seen = c.enter_begun.ensures.later };
    }

pub returns-in-Some-clause-refused : goal.returns-in-Some-clause-refused
returns-in-Some-clause-refused g c refusal is = apart _ refusal c.in-Ok.ensures.passed is

pub returns-in-Err-clause-refused : goal.returns-in-Err-clause-refused
returns-in-Err-clause-refused g c refusal is =
    let now = c.enter_answer.new.self in (
      c.tell_refusal.ensures ∙ ap Refused (same_refusal _ c.in-Err.refusal refusal c.in-Err.ensures.refused is),
      sym (answered-outcome now.fault now.place (subst (λ (f : Option Fault). IsNone f) (sym c.enter_answer.ensures.only.fault) c.requires.fault) c.enter_answer.ensures.answered),
    )

pub returns-in_default-clause-refused : goal.returns-in_default-clause-refused
returns-in_default-clause-refused g c refusal is = apart _ refusal c.in-Ok.ensures.passed is
