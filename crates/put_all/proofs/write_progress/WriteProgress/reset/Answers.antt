use Rattle.std.proofs.Common.{◌≤◌, ◌∙◌, map, length, ap, sym, subst, arith}
use Rattle.std.proofs.lemmas.List.{take_all}
use Rattle.stamps.specs.declared.record.Item.{Item}
use Rattle.put_all.specs.WriteProgress.{AreApart, count_awaited, place_for}
use Rattle.put_all.proofs.OnePlace.{new_apart}
use Rattle.put_all.proofs.CountAwaited.{each_awaited}
use Rattle.put_all.proofs.write_progress.WriteProgress.reset.Goals as goal

pub invariant_of-self : goal.invariant_of-self
invariant_of-self c =
    let items = c.args.items.now in
    let place = λ (item : Item). place_for c.args.parts item.key in
    let past : length items ≤ c.loop-item.item-index = omega (arith, c.loop-item-test.false) in
    let placed = c.loop-item.invariant ∙ ap (map place) (take_all c.loop-item.item-index items past) in
    (subst AreApart (sym placed) (new_apart c.args.parts items c.requires.keys.distinct), sym (ap count_awaited placed ∙ each_awaited c.args.parts items))
