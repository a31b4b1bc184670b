use Rattle.std.proofs.Common.{sym, arith}
use Rattle.packed_steps.specs.PackedActs.{item_at}
use Rattle.packed_steps.proofs.ManyLoop.{many_go_on, many_stop, many_end}
use Rattle.packed_steps.proofs.reading_acts.items_of.Goals as goal

pub returns-in_default : goal.returns-in_default
returns-in_default c =
    sym (many_stop item_at c.args.count c.args.bytes.now c.loop-at.items.items c.loop-at.at c.loop-at.rest.now c.loop-at-test.true (sym c.in_default.ensures) c.loop-at.invariant.so_far)

pub loop-at-preserved : goal.loop-at-preserved
loop-at-preserved c = record {
  within = omega (arith, c.loop-at-test.true);
  so_far = rw c.in_ok-push.ensures.items (many_go_on item_at c.args.count c.args.bytes.now c.loop-at.items.items c.loop-at.at c.loop-at.rest.now _ _ c.loop-at-test.true (sym c.in-Some.ensures) c.loop-at.invariant.so_far);
}

pub returns : goal.returns
returns c =
    sym (many_end item_at c.args.count c.args.bytes.now c.loop-at.items.items c.loop-at.at c.loop-at.rest.now (omega (arith, c.loop-at.invariant.within, c.loop-at-test.false)) c.loop-at.invariant.so_far)
