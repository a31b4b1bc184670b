use Rattle.std.proofs.Common.{◌≡◌, ◌∙◌, true, false, arith}
use Rattle.load.proofs.Spelled.{numbers_are_values}
use Rattle.load.proofs.mix.value_of.Goals as goal

pub unreachable-requires : goal.unreachable-requires
unreachable-requires c =
    let same = c.as_bytes.ensures.value ∙ c.format.ensures.text in
    let bad : false ≡ true = c.in_default.ensures.exact.1 (rw same (numbers_are_values c.args.nth (omega (arith, c.ranges.nth.fits)))) in cc
