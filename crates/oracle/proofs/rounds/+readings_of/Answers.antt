use Rattle.std.proofs.Common.{arith}
use Rattle.oracle.proofs.Evaluating.{first_and_rest}
use Rattle.oracle.proofs.rounds.+readings_of.Goals as goal

pub returns-in_ok-readings_of-in-len1-up : goal.returns-in_ok-readings_of-in-len1-up
returns-in_ok-readings_of-in-len1-up t c =
    let whole = first_and_rest c.args.some.now c.key-item.result (omega arith) c.key-item.is in
    rw (whole, ← c.reading_for-first.ensures, ← c.in_ok-readings_of-in-len1-up.ensures) c.prepend.ensures
