use Rattle.std.proofs.Common.{◌-◌, arith}
use Rattle.std.proofs.lemmas.Bool.{eqb-true}
use Rattle.load.proofs.GivenNumbers.{counted}
use Rattle.load.proofs.all_there.count_up_to.Goals as goal

pub returns-then-number-gt0 : goal.returns-then-number-gt0
returns-then-number-gt0 c same =
    counted c.args.numbers.now (c.args.number - 1) (eqb-true _ _ same) (λ i within. c.loop-place.invariant i (omega (arith, within, c.loop-place-test.false)))
