use Rattle.std.proofs.Common.{◌∙◌, ap, refl, rules}
use Rattle.partition.specs.PackedEvents.{Happenings}
use Rattle.partition.specs.Journals.{room_for}
use Rattle.closed_store.specs.Joins.{given_for}
use Rattle.closed_store.proofs.Risen.{not_true}
use Rattle.closed_store.proofs.Together.{joined, unfit, pushed}
use Rattle.closed_store.proofs.join.joining.join_epochs.Goals as goal

pub returns-then-not-branch : goal.returns-then-not-branch
returns-then-not-branch c = record {
  joined = search rules;
  base = λ is fit.
      let given = given_for c.args.given.now c.args.partition c.args.tenant in
      let all_is = pushed _ _ c.push.result (c.is_err.ensures.value) c.if-is_err.false c.push.ensures.items in
      let replayed = rw c.deref.ensures.value at c.in_ok-replay.ensures in
      unfit given c.args.left.now c.in_ok-epochs.epochs.items c.put_in_order.new.epochs.items c.push.new.self.items _ c.in_ok-epochs.ensures c.in_ok-put_in_order.ensures.same all_is refl
      (room_for c.args.limits.now) c.in_ok-put_in_order.ensures.ordered (λ start. not_true c.in_ok-replay.field-0 c.if-not-branch.true (replayed.1 start)) fit;
  faults = search rules;
}

pub returns : goal.returns
returns c = record {
  joined =
      let given = given_for c.args.given.now c.args.partition c.args.tenant in
      let all_is = pushed _ _ c.push.result (c.is_err.ensures.value) c.if-is_err.false c.push.ensures.items in
      let replayed = rw c.deref.ensures.value at c.in_ok-replay.ensures in
      let events_is = rw c.deref-2.ensures.value at c.in_ok-events.ensures in
      joined given c.args.left.now c.in_ok-epochs.epochs.items c.put_in_order.new.epochs.items c.push.new.self.items _ c.in_ok-epochs.ensures c.in_ok-put_in_order.ensures.same all_is refl
      c.args.limits.now c.of.result (replayed.0 c.if-not-branch.false) c.of.ensures.limits c.of.ensures.start (ap (λ (v : Happenings). v.items) c.of.ensures.events ∙ events_is);
  base = search rules;
  faults = search rules;
}
