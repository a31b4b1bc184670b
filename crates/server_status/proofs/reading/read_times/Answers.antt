use Rattle.std.proofs.Common.{arith, refl}
use Rattle.server_status.proofs.Rows.{rising_more}
use Rattle.server_status.proofs.reading.read_times.Goals as goal

pub loop-class-preserved : goal.loop-class-preserved
loop-class-preserved c =
    let so_far = c.loop-class.invariant in
    rw c.in_ok-push.ensures.items (
      rising_more 0 c.loop-class.lines _ c.loop-class.rows.items _ so_far.0 refl (omega (arith, so_far)),
      omega (arith, so_far),
    )
