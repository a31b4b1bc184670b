use Rattle.std.proofs.Common.{◌≡◌, ◌∙◌, length, ap, sym, subst, arith}
use Rattle.std.proofs.lemmas.List.{length-map}
use Rattle.get_all.specs.ReadProgress.{AreApart, count_unshown, slot_for}
use Rattle.get_all.proofs.CountUnshown.{each_unshown}
use Rattle.get_all.proofs.OneSlot.{new_apart}
use Rattle.get_all.proofs.read_progress.ReadProgress.reset.Goals as goal

pub invariant_of-self : goal.invariant_of-self
invariant_of-self c =
    let keys = c.args.keys.now in
    let made = c.reset.ensures in
    let as_long : length c.reset.new.self ≡ length keys = ap length made ∙ length-map keys slot_for in (
      omega (arith, c.requires.not_empty, as_long),
      omega (arith, c.requires.at_most, as_long),
      λ current. cc,
      subst AreApart (sym made) (new_apart keys c.requires.distinct),
      sym (ap count_unshown made ∙ each_unshown keys),
    )
