use Rattle.std.proofs.Common.{◌≡◌, ◌==◌, ◌-◌, ◌∙◌, length, map, ap, sym, subst, arith, refl}
use Rattle.std.specs.Prelude.{position, option_copied}
use Rattle.std.proofs.lemmas.List.{length-map}
use Rattle.get_all.specs.ReadProgress.{AreApart, count_unshown, with_first, awaits_first}
use Rattle.get_all.proofs.CountUnshown.{none_unshown}
use Rattle.get_all.proofs.OneSlot.{one_less, one_slot, still_apart}
use Rattle.get_all.proofs.read_progress.ReadProgress.mark_first.Goals as goal

pub overflow_sub-self : goal.overflow_sub-self
overflow_sub-self c =
    let slots = c.self.inside.slots in
    let found = ap (position (awaits_first c.args.key.now)) c.self.view_is ∙ c.requires in
    omega (arith, c.self.invariant.4, one_less c.args.key.now slots c.args.at found (option_copied c.args.shown) c.put_first.new.self c.put_first.ensures)

pub invariant_of-self : goal.invariant_of-self
invariant_of-self c =
    let slots = c.self.inside.slots in
    let mark = with_first c.args.key.now (option_copied c.args.shown) in
    let found = ap (position (awaits_first c.args.key.now)) c.self.view_is ∙ c.requires in
    let marked : c.put_first.new.self ≡ map mark slots = one_slot c.args.key.now slots c.args.at found (option_copied c.args.shown) c.put_first.new.self c.self.invariant.3 c.put_first.ensures in
    let as_long : length c.put_first.new.self ≡ length slots = ap length marked ∙ length-map slots mark in (
      omega (arith, c.self.invariant.0, as_long),
      omega (arith, c.self.invariant.1, as_long),
      c.are_current-self-inside.ensures,
      subst AreApart (sym marked) (still_apart mark (λ slot. refl) slots c.self.invariant.3),
      omega (arith, c.self.invariant.4, one_less c.args.key.now slots c.args.at found (option_copied c.args.shown) c.put_first.new.self c.put_first.ensures),
    )

pub returns-clause-slots : goal.returns-clause-slots
returns-clause-slots c =
    let slots = c.self.inside.slots in
    let mark = with_first c.args.key.now (option_copied c.args.shown) in
    let found = ap (position (awaits_first c.args.key.now)) c.self.view_is ∙ c.requires in
    one_slot c.args.key.now slots c.args.at found (option_copied c.args.shown) c.put_first.new.self c.self.invariant.3 c.put_first.ensures
    ∙ ap (map mark) c.self.view_is

pub returns-clause-shown : goal.returns-clause-shown
returns-clause-shown c =
    let slots = c.self.inside.slots in
    let found = ap (position (awaits_first c.args.key.now)) c.self.view_is ∙ c.requires in
    let fewer = one_less c.args.key.now slots c.args.at found (option_copied c.args.shown) c.put_first.new.self c.put_first.ensures in
    let left : c.self.inside.unshown - 1 ≡ count_unshown c.put_first.new.self = omega (arith, c.self.invariant.4, fewer) in
    ap (λ n. n == 0) left ∙ none_unshown c.put_first.new.self
