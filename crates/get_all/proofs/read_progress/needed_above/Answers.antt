use Rattle.std.proofs.Common.{arith}
use Rattle.plain_store.specs.Rounds.{stamp_for}
use Rattle.stamps.proofs.StampLemmas.{greatest_by-take_more}
use Rattle.get_all.specs.declared.read_progress.KeyProgress.{KeyProgress}
use Rattle.get_all.proofs.read_progress.needed_above.Goals as goal

pub loop-slot-preserved : goal.loop-slot-preserved
loop-slot-preserved c =
    let stamp_of = λ (slot : KeyProgress). stamp_for c.args.key.now slot.first in
    let more = greatest_by-take_more stamp_of c.args.slots.now c.loop-slot.slot-index c.slot-item.result c.loop-slot-test.true c.slot-item.is in
    omega (arith, c.loop-slot.invariant, c.raise-needed.ensures, more)
