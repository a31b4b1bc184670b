use Rattle.std.proofs.Common.{refl}
use Rattle.server_status.proofs.Rows.{refusals_more, refusals_wider}
use Rattle.server_status.proofs.reading.read_refusals.Goals as goal
use Rattle.server_status.proofs.reading.read_refusals.Goals.{then-lines-gt0+in_ok-push, else-lines-gt0}

pub loop-number-preserved : goal.loop-number-preserved
loop-number-preserved c =
    let so_far = c.loop-number.refusals.items in
    elim c.if-lines-gt0.branch [
      | then-lines-gt0+in_ok-push w ↦
          rw w.refusals-is (rw w.in_ok-push.ensures.items (refusals_more 0 c.loop-number.number so_far _ c.loop-number.invariant refl (c.lines_of-lines.ensures w.if-lines-gt0.true) w.if-lines-gt0.true))
      | else-lines-gt0 w ↦ rw w.refusals-is (refusals_wider 0 c.loop-number.number so_far c.loop-number.invariant)
    ]
