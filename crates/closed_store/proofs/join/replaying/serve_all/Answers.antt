use Rattle.std.proofs.Common.{◌+◌, ◌∙◌, List, take_all, arith, sym, subst}
use Rattle.std.proofs.lemmas.Option.{get_or_from_slice_get}
use Rattle.partition.specs.Events.{Event}
use Rattle.partition.specs.Journals.{room_for}
use Rattle.closed_store.specs.Joins.{IsAmid}
use Rattle.closed_store.proofs.Replayed.{all_below, same_reply, one_more, still_amid}
use Rattle.closed_store.proofs.join.replaying.serve_all.Goals as goal

pub loop-place-init : goal.loop-place-init
loop-place-init c = (c.requires, λ limits before amid. (λ place e under. absurd (omega (arith, under)), amid))

pub returns-then-not-has_reply-clause-differs : goal.returns-then-not-has_reply-clause-differs
returns-then-not-has_reply-clause-differs c limits before amid replies =
    let now = c.loop-place.invariant.1 limits before amid in
    let told = rw c.call-call.ensures at c.in-Ok.ensures.enters.reply in
    let same = same_reply limits before c.args.events.now.items c.loop-place.place c.event-event.result c.loop-place.book c.in-Ok.reply (omega (arith, c.loop-place-test.true, c.len-place-end.ensures.count)) (sym (get_or_from_slice_get c.args.events.now.items c.loop-place.place c.event-event.result c.event-event.result (sym c.event-event.ensures))) now.1 told replies in
    sym c.if-not-has_reply.true ∙ c.has_reply.ensures.1 same

pub loop-place-preserved : goal.loop-place-preserved
loop-place-preserved c = (
  omega (arith, c.in-Ok.ensures.enters.entered.tenants, c.loop-place.invariant.0),
  λ limits before amid.
      let now = c.loop-place.invariant.1 limits before amid in
      let told = rw c.call-call.ensures at c.in-Ok.ensures.enters.reply in
      let same = c.has_reply.ensures.0 c.if-not-has_reply.false in
      let entered = rw (c.seat-seat.ensures, c.call-call.ensures) at c.in-Ok.ensures.enters.entered in (
        one_more limits before c.args.events.now.items c.loop-place.place c.event-event.result c.loop-place.book c.in-Ok.reply (omega (arith, c.loop-place-test.true, c.len-place-end.ensures.count)) (sym (get_or_from_slice_get c.args.events.now.items c.loop-place.place c.event-event.result c.event-event.result (sym c.event-event.ensures))) now.1 told same now.0,
        still_amid limits before c.args.events.now.items c.loop-place.place c.event-event.result c.loop-place.book c.in-Ok.reply (omega (arith, c.loop-place-test.true, c.len-place-end.ensures.count)) (sym (get_or_from_slice_get c.args.events.now.items c.loop-place.place c.event-event.result c.event-event.result (sym c.event-event.ensures))) now.1 told same c.serve.new.self (c.loop-place.place + 1) entered,
      ),
)

pub returns-clause-replayed : goal.returns-clause-replayed
returns-clause-replayed c told limits before amid =
    let now = c.loop-place.invariant.1 limits before amid in (
      all_below (room_for limits) before c.args.events.now.items c.loop-place.place (omega (arith, c.loop-place-test.false, c.len-place-end.ensures.count)) now.0,
      subst (λ (es : List Event). IsAmid limits (room_for limits) before es c.loop-place.book) (take_all c.loop-place.place c.args.events.now.items (omega (arith, c.loop-place-test.false, c.len-place-end.ensures.count))) now.1,
    )
