use Rattle.std.proofs.Common.{true, false}
use Rattle.settle.specs.Trace.{after, acts_of}
use Rattle.settle.proofs.Taken.{named}
use Rattle.settle.proofs.progress.Progress.keep_before.Goals as goal

pub returns-then-eq : goal.returns-then-eq
returns-then-eq c input trace partition noted next =
    named input trace partition c.args.event.now next c.keep-in_force.result c.in_ok-keep.keep true c.in_ok-keep.ensures
    (c.keep-in_force.ensures input (acts_of input trace) (after input trace) noted.replays) c.if-eq.ensures

pub returns : goal.returns
returns c input trace partition noted next =
    named input trace partition c.args.event.now next c.keep-in_force.result c.in_ok-keep.keep false c.in_ok-keep.ensures
    (c.keep-in_force.ensures input (acts_of input trace) (after input trace) noted.replays) c.if-eq.ensures
