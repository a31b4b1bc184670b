use Rattle.std.proofs.Common.{arith}
use Rattle.oracle.proofs.Evaluating.{first_and_rest}
use Rattle.oracle.proofs.history.+log_at.Goals as goal

pub returns-in_ok-log_at-in-len1-up : goal.returns-in_ok-log_at-in-len1-up
returns-in_ok-log_at-in-len1-up t c =
    let first = first_and_rest c.args.history.now c.moment-item.result (omega arith) c.moment-item.is in
    rw (first, ← c.keep_in.ensures, ← c.in_ok-log_at-in-len1-up.ensures) c.log_after.ensures
