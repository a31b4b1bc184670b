use Rattle.std.proofs.Common.{◌≡◌, Some, sym, ◌∙◌, arith}
use Rattle.std.proofs.lemmas.Option.{get_or_from_slice_get}
use Rattle.std.specs.Prelude.{slice_get}
use Rattle.partition.specs.Events.{event}
use Rattle.settle.proofs.EpochEnds.{falls_at, played_to, not_where, untrue}
use Rattle.settle.proofs.epoch_check.play_epoch.Goals as goal

pub returns-then-not-branch-clause-exact : goal.returns-then-not-branch-clause-exact
returns-then-not-branch-clause-exact c =
    let events = c.args.epoch.now.events.items in
    let its = c.call_into-event.result in
    let e = event its.seat its.number c.call.result.now its.reply in
    let there : Some e ≡ slice_get events c.loop-at.at = (λ i. Some (event its.seat its.number (c.call.ensures i) its.reply)) ∙ c.call_into-event.ensures in
    not_where (falls_at c.args.epoch.now.base events c.loop-at.at e (omega (arith, c.loop-at-test.true, c.len-at-end.ensures.count)) (sym (get_or_from_slice_get events c.loop-at.at e e (sym there)))
    (λ follows. untrue _ c.if-not-branch.true (c.in_ok-play_one.ensures.no c.args.epoch.now.base _ c.slots-log.ensures.log c.loop-at.invariant follows)))

pub loop-at-preserved : goal.loop-at-preserved
loop-at-preserved c =
    let events = c.args.epoch.now.events.items in
    let its = c.call_into-event.result in
    let e = event its.seat its.number c.call.result.now its.reply in
    let there : Some e ≡ slice_get events c.loop-at.at = (λ i. Some (event its.seat its.number (c.call.ensures i) its.reply)) ∙ c.call_into-event.ensures in
    played_to c.args.epoch.now.base c.play_one.new.replica events c.loop-at.at e c.play_one.new.lasts (omega (arith, c.loop-at-test.true, c.len-at-end.ensures.count)) (sym (get_or_from_slice_get events c.loop-at.at e e (sym there)))
    (c.in_ok-play_one.ensures.yes c.args.epoch.now.base _ c.loop-at.invariant c.if-not-branch.false)
