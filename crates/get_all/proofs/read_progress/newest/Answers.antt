use Rattle.std.proofs.Common.{arith, sym, ◌∙◌, true, false}
use Rattle.std.proofs.lemmas.Bool.{ltb-true, ltb-false}
use Rattle.plain_store.specs.Rounds.{stamp_seen}
use Rattle.stamps.proofs.StampLemmas.{greatest_by-take_more}
use Rattle.get_all.specs.declared.read_progress.KeyProgress.{KeyProgress}
use Rattle.get_all.proofs.Steps.{lt_test}
use Rattle.get_all.proofs.read_progress.newest.Goals as goal
use Rattle.get_all.proofs.read_progress.newest.Goals.{then-lt, else-lt}

pub loop-slot-preserved : goal.loop-slot-preserved
loop-slot-preserved c =
    let more = greatest_by-take_more (λ (slot : KeyProgress). stamp_seen slot.first) c.args.slots.now c.loop-slot.slot-index c.slot-item.result c.loop-slot-test.true c.slot-item.is in
    elim c.if-lt.branch [
      | then-lt w ↦
          let less = ltb-true c.loop-slot.newest c.first_stamp-stamp.result (lt_test c.loop-slot.newest c.first_stamp-stamp.result true (sym c.lt.ensures ∙ w.if-lt.true)) in
          omega (arith, c.loop-slot.invariant, less, w.newest-is, c.first_stamp-stamp.ensures, more)
      | else-lt w ↦
          let past = ltb-false c.loop-slot.newest c.first_stamp-stamp.result (lt_test c.loop-slot.newest c.first_stamp-stamp.result false (sym c.lt.ensures ∙ w.if-lt.false)) in
          omega (arith, c.loop-slot.invariant, past, w.newest-is, c.first_stamp-stamp.ensures, more)
    ]
