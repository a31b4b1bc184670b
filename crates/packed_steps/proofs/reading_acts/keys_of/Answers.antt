use Rattle.std.proofs.Common.{◌+◌, List, ℕ, sym, subst, arith}
use Rattle.packed.specs.Reading.{key_at}
use Rattle.packed_steps.proofs.ManyLoop.{ManySoFar, many_go_on, many_stop, many_end}
use Rattle.packed_steps.proofs.reading_acts.keys_of.Goals as goal

pub returns-in_default : goal.returns-in_default
returns-in_default c =
    sym (many_stop key_at c.args.count c.args.bytes.now c.loop-at.keys.items c.loop-at.at c.loop-at.rest.now c.loop-at-test.true (sym c.in_default.ensures) c.loop-at.invariant.so_far)

pub loop-at-preserved : goal.loop-at-preserved
loop-at-preserved c = record {
  within = omega (arith, c.loop-at-test.true);
  so_far = subst (λ (keys : List (List ℕ)). ManySoFar key_at c.args.count c.args.bytes.now keys (c.loop-at.at + 1) c.in-Some.read.1.now) (sym c.in_ok-push.ensures.items) (many_go_on key_at c.args.count c.args.bytes.now c.loop-at.keys.items c.loop-at.at c.loop-at.rest.now c.in-Some.read.0 c.in-Some.read.1.now c.loop-at-test.true (sym c.in-Some.ensures) c.loop-at.invariant.so_far);
}

pub returns : goal.returns
returns c =
    sym (many_end key_at c.args.count c.args.bytes.now c.loop-at.keys.items c.loop-at.at c.loop-at.rest.now (omega (arith, c.loop-at.invariant.within, c.loop-at-test.false)) c.loop-at.invariant.so_far)
