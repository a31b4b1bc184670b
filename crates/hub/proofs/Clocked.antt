-- A seat that drew from the clock of its tenant: for `put_by_clock_into` and `draw`.
use Rattle.std.proofs.Common.{◌≡◌, ◌+◌, ◌<◌, ◌≤◌, ◌∙◌, ℕ, List, [], ◌∷◌, ◌++◌, Option, Some, None, Bool, true, false, ap, inl, inr, subst, sym, refl, arith, append_assoc}
use Rattle.std.proofs.lemmas.List.Elements.{All-append, All-cons, All-nil}
use Rattle.std.specs.Prelude.{◌↔◌, IfSome, max, if◌then◌else◌}
use Rattle.std.proofs.Math.Nat.{max-eq_left}
use mathlib.Core.List.{IsPrefix}
use Rattle.stamps.specs.declared.record.Item.{Item}
use Rattle.stamps.specs.Stamp.{stamp}
use Rattle.plain_store.specs.Words.{◌∈◌, Stamp}
use Rattle.plain_store.specs.declared.answer.Answer.{Answer}
use Rattle.plain_store.specs.declared.answer.Answer.TheVariants.{Refused}
use Rattle.plain_store.specs.declared.refusal.Refusal.{Refusal}
use Rattle.plain_store.specs.declared.refusal.Refusal.TheVariants.{OutOfMemory, RowsUsed, Stopped}
use Rattle.plain_store.specs.declared.step.Act.TheVariants.{Hello, Put, Stop}
use Rattle.entry_list.specs.Raises.{raise_entries}
use Rattle.entry_list.specs.declared.kinds.Entry.{Entry}
use Rattle.entry_list.specs.declared.kinds.Entry.TheVariants.{Began}
use Rattle.history.specs.declared.entry.HistoryEntry.{HistoryEntry}
use Rattle.history.specs.declared.entry.HistoryEntry.TheVariants.{Drew}
use Rattle.history.specs.declared.entry.Draw.{Draw}
use Rattle.history.specs.Clock.{IsDrawnBehind}
use Rattle.history.proofs.Lists.{prefix_has, prefix_join}
use Rattle.tenant_sessions.specs.declared.session.ClientSession.{ClientSession}
use Rattle.shard.specs.declared.seat_name.SeatName.{SeatName}
use Rattle.plain_store.proofs.Members.{in_right}
use Rattle.hub.specs.Clocks.{IsDrawRefusal, IsRaised, IsStampedBehind, IsWrittenBy, PutsByClock}
use Rattle.hub.specs.Fresh.{AreCommittedIn}
use Rattle.hub.specs.Limits.{last_call, max_calls}
use Rattle.hub.specs.Operations.{IsLater, IsOperation, ReportsMove, ReportsWrite}
use Rattle.hub.specs.Replies.{IfDone, IsDrawn, IsServedFor}
use Rattle.hub.specs.Seats.{SeatView, is_unbegun, sight}
use Rattle.hub.proofs.Operations.{later-same, unbegun-entered}
use Rattle.hub.proofs.Replies.{if_done}

-- what it does then is later than what it was
pub later_raised : (old between new : SeatView) → IsRaised old between → IsLater max_calls between new → IsLater max_calls old new
later_raised old between new raised later =
    let raise = raise_entries old.name.client between.counter in
    let hello = Began (Hello old.name.client between.counter) in
    let its : IsLater max_calls (record old { counter = between.counter; entries = old.entries ++ raise; seen = between.seen }) new = subst (λ (s : SeatView). IsLater max_calls s new) raised.rest later in
    let P : Entry → Type 0 = IsServedFor (sight new) old.sent new.sent in
    record {
      name = its.name;
      parts = its.parts;
      kept = (raise ++ its.kept.0, its.kept.1 ∙ append_assoc old.entries raise its.kept.0);
      seen = prefix_join old.seen between.seen new.seen raised.seen its.seen;
      served = record {
        more = raise ++ its.served.more;
        is = its.served.is ∙ append_assoc old.entries raise its.served.more;
        served = All-append P raise its.served.more (All-cons P (Began (Stop old.name.client)) (hello ∷ []) tt (All-cons P hello [] tt (All-nil P))) its.served.served;
      };
      sent = its.sent;
      counter = omega (arith, raised.counter, its.counter);
    }

-- nothing is begun where nothing is drawn, and the seat is not told that it was stopped
pub draw_unbegun : (refusal : Refusal) → IsDrawRefusal refusal → is_unbegun refusal ≡ true
draw_unbegun refusal (inl is) = ap is_unbegun is
draw_unbegun refusal (inr is) = ap is_unbegun is

pub draw_not_stopped : (answer : Answer) (refusal : Refusal) → answer ≡ Refused refusal → IsDrawRefusal refusal → answer ≡ Refused Stopped → ⊥
draw_not_stopped answer refusal is (inl why) same = let both : Refused RowsUsed ≡ Refused Stopped = ap Refused (sym why) ∙ sym is ∙ same in cc
draw_not_stopped answer refusal is (inr why) same = let both : Refused OutOfMemory ≡ Refused Stopped = ap Refused (sym why) ∙ sym is ∙ same in cc

-- a write that did not begin
pub write_refused : (items : List Item) (seat : SeatView) (answer : Answer) (refusal : Refusal) → answer ≡ Refused refusal → is_unbegun refusal ≡ true → IsWrittenBy items seat answer seat
write_refused items seat answer refusal is unbegun = record {
  entered = unbegun-entered (Put seat.name.client items) seat answer refusal is unbegun;
  stamp = subst (λ (a : Answer). IfDone a (IsDrawn seat.name.client seat.counter seat.counter)) (sym is) tt;
  written = subst (λ (a : Answer). ReportsWrite items seat a seat) (sym is) (λ setup same. tt);
  moved = subst (λ (a : Answer). ReportsMove (Put seat.name.client items) seat a seat) (sym is) (λ setup same. tt);
}

-- why it was refused is what was found
pub refused_as : (answer : Answer) (found : Option Refusal) (refusal : Refusal) (P : Type 0) → answer ≡ Refused refusal → found ≡ Some refusal → (found ≡ Some Stopped) ↔ P → (answer ≡ Refused Stopped) ↔ P
refused_as answer found refusal P is at both = (
  λ same. both.0 (let one : Refused refusal ≡ Refused Stopped = sym is ∙ same in let two : refusal ≡ Stopped = cc in at ∙ ap Some two),
  λ p. let one : Some refusal ≡ Some Stopped = sym at ∙ both.1 p in let two : refusal ≡ Stopped = cc in is ∙ ap Refused two,
)

-- the draw stands in what is seen later
pub drawn_later : (evidence seen now : List HistoryEntry) (drawn : Draw) → IsPrefix seen now → IsDrawnBehind evidence seen drawn → IsDrawnBehind evidence now drawn
drawn_later evidence seen now drawn pre d = record {
  before = d.before;
  after = d.after ++ pre.0;
  stands = sym pre.1 ∙ ap (λ (l : List HistoryEntry). l ++ pre.0) d.stands ∙ append_assoc d.before (Drew drawn ∷ d.after) pre.0;
  behind = d.behind;
  above = d.above;
}

-- a session that is closed and opened again from this base is that with the greater counter
pub raised : (first old closed opened : ClientSession) (base : ℕ) → old ≡ first → first.is_open ≡ true → closed ≡ (if old.is_open then record old { is_open = false; running = None } else old)
    → opened ≡ (if closed.is_open then closed else record closed { is_open = true; counter = max base closed.counter }) → opened.counter ≡ max base first.counter
raised first old closed opened base same is shuts opens =
    let shut : closed ≡ record old { is_open = false; running = None } = shut_is old.is_open (ap (λ (s : ClientSession). s.is_open) same ∙ is) shuts in
    open_is closed.is_open (ap (λ (s : ClientSession). s.is_open) shut) opens ∙ ap (max base) (ap (λ (s : ClientSession). s.counter) shut ∙ ap (λ (s : ClientSession). s.counter) same)
  where
    shut_is : (b : Bool) → b ≡ true → closed ≡ (if b then record old { is_open = false; running = None } else old) → closed ≡ record old { is_open = false; running = None }
    shut_is true at h = h
    shut_is false at h = absurd (cc at)

    open_is : (b : Bool) → b ≡ false → opened ≡ (if b then closed else record closed { is_open = true; counter = max base closed.counter }) → opened.counter ≡ max base closed.counter
    open_is true at h = absurd (cc at)
    open_is false at h = ap (λ (s : ClientSession). s.counter) h

-- the counter that the session was raised to is that of its hello
pub raised_to : (floor base after : ℕ) (drawn : Option ℕ) → drawn ≡ Some (base + 1) → IfSome drawn (λ counter. floor < counter) → after ≡ max base floor → base ≡ after
raised_to floor base after drawn is above raises =
    let low : floor < base + 1 = subst (λ (o : Option ℕ). IfSome o (λ counter. floor < counter)) is above in
    sym (raises ∙ max-eq_left (omega (arith, low)))

-- what was drawn is one above it
pub drawn_below : (evidence seen now : List HistoryEntry) (tenant floor base after : ℕ) (drawn : Option ℕ) → drawn ≡ Some (base + 1)
    → IfSome drawn (λ counter. IsDrawnBehind evidence seen (record { tenant = tenant; counter = counter })) → IfSome drawn (λ counter. floor < counter) → IsPrefix seen now
    → after ≡ max base floor → IsDrawnBehind evidence now (record { tenant = tenant; counter = after + 1 })
drawn_below evidence seen now tenant floor base after drawn is behind above pre raises =
    let P : Option ℕ → Type 0 = λ o. IfSome o (λ counter. IsDrawnBehind evidence seen (record { tenant = tenant; counter = counter })) in
    let its : IsDrawnBehind evidence seen (record { tenant = tenant; counter = base + 1 }) = subst P is behind in
    drawn_later evidence seen now (record { tenant = tenant; counter = after + 1 }) pre
    (subst (λ (n : ℕ). IsDrawnBehind evidence seen (record { tenant = tenant; counter = n + 1 })) (raised_to floor base after drawn is above raises) its)

-- a put that is done behind the draw has its stamp
pub stamped_behind : (old between new : List HistoryEntry) (name : SeatName) (client counter after : ℕ) (own : Stamp) → client ≡ name.client → IsPrefix between new
    → IsDrawnBehind old between (record { tenant = name.tenant; counter = counter + 1 }) → IsDrawn client counter after own → IsStampedBehind old new name own
stamped_behind old between new name client counter after own same pre drawn is = record {
  counter = counter + 1;
  stamped = is.0 ∙ ap (stamp (counter + 1)) same;
  drawn = drawn_later old between new (record { tenant = name.tenant; counter = counter + 1 }) pre drawn;
}

-- a seat that drew nothing, and is as it was, was refused
pub put_undrawn : (items : List Item) (old new : SeatView) (answer : Answer) (refusal : Refusal) → new ≡ old → answer ≡ Refused refusal → IsDrawRefusal refusal → old.stopped ≡ false → old.sent ≤ last_call
    → PutsByClock items old answer new
put_undrawn items old new answer refusal same is why going few =
    subst (λ (s : SeatView). PutsByClock items old answer s) (sym same)
    (record {
      between = old;
      raised = inl refl;
      written = write_refused items old answer refusal is (draw_unbegun refusal why);
      later = later-same max_calls old;
      stopped = (λ told. absurd (draw_not_stopped answer refusal is why told), λ at. absurd (let both : true ≡ false = sym at ∙ going in cc));
      used_up = λ used. absurd (omega (arith, used.1, few));
      drawn = subst (λ (a : Answer). IfDone a (IsStampedBehind old.seen old.seen old.name)) (sym is) tt;
      committed = subst (λ (a : Answer). IfDone a (AreCommittedIn old.seen old.name.tenant items)) (sym is) tt;
    })

-- a seat that drew, and then wrote, put by the clock
pub put_drawn : (items : List Item) (old drawn new : SeatView) (answer : Answer) → IsRaised old drawn → IsDrawnBehind old.seen drawn.seen (record { tenant = old.name.tenant; counter = drawn.counter + 1 })
    → IsOperation (Put drawn.name.client items) drawn answer new → IfDone answer (IsDrawn drawn.name.client drawn.counter new.counter) → ReportsWrite items drawn answer new
    → IfDone answer (AreCommittedIn new.seen new.name.tenant items) → PutsByClock items old answer new
put_drawn items old drawn new answer raised draw done stamped written committed =
    let stops : drawn.stopped ≡ old.stopped = ap (λ (s : SeatView). s.stopped) raised.rest in
    record {
      between = drawn;
      raised = inr raised;
      written = record { entered = done.entered; stamp = stamped; written = written; moved = done.moved };
      later = later_raised old drawn new raised done.later;
      stopped = (λ same. sym stops ∙ done.stopped.0 same, λ at. done.stopped.1 (stops ∙ at));
      used_up = λ used. done.past.1 (stops ∙ used.0, subst (λ (n : ℕ). last_call < n) (sym (ap (λ (s : SeatView). s.sent) raised.rest)) used.1);
      drawn = if_done answer (IsDrawn drawn.name.client drawn.counter new.counter) (IsStampedBehind old.seen new.seen old.name)
          (λ own is. stamped_behind old.seen drawn.seen new.seen old.name drawn.name.client drawn.counter new.counter own (ap (λ (s : SeatView). s.name.client) raised.rest) done.later.seen draw is) stamped;
      committed = committed;
    }

-- the stamp of a put that began behind what another's seat had seen at its end is above the other's
pub stamps_rise : (first between seen now : List HistoryEntry) (name other : SeatName) (own later : Stamp) → name.client < 65536 → name.tenant ≡ other.tenant → IsStampedBehind first between name own
    → IsPrefix between seen → IsStampedBehind seen now other later → own < later
stamps_rise first between seen now name other own later small same one pre two =
    let d : Draw = record { tenant = name.tenant; counter = one.counter } in
    let there : Drew d ∈ between = subst (λ (l : List HistoryEntry). Drew d ∈ l) (sym one.drawn.stands) (in_right one.drawn.before (Drew d ∷ one.drawn.after) (Drew d) (inl refl)) in
    let less = two.drawn.above d (prefix_has between two.drawn.before (Drew d) (prefix_join between seen two.drawn.before pre two.drawn.behind) there) same in
    omega (arith, one.stamped, two.stamped, less, small)
