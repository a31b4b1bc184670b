use Rattle.std.proofs.Common.{arith}
use Rattle.version_chain.proofs.StampParts.{begins_here, one_lower}
use Rattle.version_chain.proofs.stamp_list.place_from.Goals as goal

pub loop-step-init : goal.loop-step-init
loop-step-init c = (omega arith, λ k d from to. absurd (omega arith))

pub ends_from-requires : goal.ends_from-requires
ends_from-requires c = c.loop-step.invariant.0

pub returns-then-not-ends_from-clause-place : goal.returns-then-not-ends_from-clause-place
returns-then-not-ends_from-clause-place c =
    begins_here c.args.list.now c.args.stamp c.loop-step.first c.requires c.loop-step.invariant.0 c.loop-step.invariant.1 (c.ends_from.ensures.below c.if-not-ends_from.true)

pub loop-step-preserved : goal.loop-step-preserved
loop-step-preserved c =
    let from = c.ends_from.ensures.from c.if-not-ends_from.false in
    (omega (arith, c.loop-step.invariant.0), one_lower c.args.list.now c.args.stamp c.loop-step.first from.0 from.1 c.loop-step.invariant.1)
