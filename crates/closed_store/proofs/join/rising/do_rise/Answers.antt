use Rattle.std.proofs.Common.{◌≡◌, ◌<◌, ◌≤◌, length, get_or, ◌∙◌, refl, sym, arith}
use Rattle.std.proofs.lemmas.Option.{get_or_from_slice_get}
use Rattle.closed_store.proofs.Risen.{is_ok, went_well, refused, lasts_more, rise_more, rise_below, not_true}
use Rattle.closed_store.proofs.join.rising.do_rise.Goals as goal

pub loop-at-preserved : goal.loop-at-preserved
loop-at-preserved c =
    let e = c.event-event.result in
    let k = c.loop-at.at in
    let events = c.args.events.now.items in
    let within : k < length events = omega (arith, c.loop-at-test.true, c.len-at-end.ensures.count) in
    let there : e ≡ get_or events k e = sym (get_or_from_slice_get events k e e (sym c.event-event.ensures)) in
    let has = c.loop-at.invariant.0 in
    let room = is_ok c.reserve.result (sym c.is_err.ensures.value ∙ c.if-is_err.false) c.reserve.ensures.ok in
    let told = (went_well c.insert.result (c.insert.ensures.succeeds room) c.insert.ensures.updates).0 in
    let told' = rw (c.reserve.ensures.entries, c.seat-seat.ensures, c.number-number.ensures) at told in
    let late = rw (c.seat-seat.ensures, c.number-number.ensures) at c.is_late.ensures.1 in (
      lasts_more events k e within there c.loop-at.lasts has c.insert.new.self c.insert.ensures.unique told',
      rise_more events k e within there c.loop-at.lasts has (λ l. not_true c.is_late.result c.if-is_late.false (late l)) c.loop-at.invariant.1,
    )

pub returns-then-is_late : goal.returns-then-is_late
returns-then-is_late c =
    let e = c.event-event.result in
    let k = c.loop-at.at in
    let events = c.args.events.now.items in
    let within : k < length events = omega (arith, c.loop-at-test.true, c.len-at-end.ensures.count) in
    let there : e ≡ get_or events k e = sym (get_or_from_slice_get events k e e (sym c.event-event.ensures)) in
    let late = rw (c.seat-seat.ensures, c.number-number.ensures) at c.is_late.ensures.0 in
    (λ f. absurd (cc), λ rise. absurd (refused events k e within there c.loop-at.lasts c.loop-at.invariant.0 (late c.if-is_late.true) rise))

pub returns : goal.returns
returns c =
    let all : length c.args.events.now.items ≤ c.loop-at.at = omega (arith, c.loop-at-test.false, c.len-at-end.ensures.count) in
    (λ _. rise_below c.args.events.now.items c.loop-at.at all c.loop-at.invariant.1, λ _. refl)
