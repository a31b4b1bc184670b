use Rattle.std.proofs.Common.{◌≡◌, ◌∙◌, List, length, ap, sym, subst, arith, refl}
use Rattle.std.specs.List.{list_any}
use Rattle.std.proofs.lemmas.List.{length-map}
use Rattle.get_all.specs.ReadProgress.{AreApart, count_unshown, with_second, is_late_by}
use Rattle.get_all.proofs.CountUnshown.{as_many}
use Rattle.get_all.specs.declared.read_progress.KeyProgress.{KeyProgress}
use Rattle.get_all.proofs.Lateness.{late-second}
use Rattle.get_all.proofs.OneSlot.{still_apart}
use Rattle.get_all.proofs.read_progress.ReadProgress.mark_second.Goals as goal

pub invariant_of-self : goal.invariant_of-self
invariant_of-self c =
    let slots = c.self.inside.slots in
    let mark = with_second c.args.key.now c.args.version.now in
    let marked = c.take_second.ensures in
    let as_long : length c.take_second.new.self ≡ length slots = ap length marked ∙ length-map slots mark in (
      omega (arith, c.self.invariant.0, as_long),
      omega (arith, c.self.invariant.1, as_long),
      λ current. ap (λ (now : List KeyProgress). list_any (is_late_by now) now) marked ∙ late-second c.args.key.now c.args.version.now slots ∙ c.self.invariant.2 current,
      subst AreApart (sym marked) (still_apart mark (λ slot. refl) slots c.self.invariant.3),
      c.self.invariant.4 ∙ sym (ap count_unshown marked ∙ as_many c.args.key.now c.args.version.now slots),
    )
