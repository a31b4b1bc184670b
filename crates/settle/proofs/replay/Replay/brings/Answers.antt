use Rattle.std.proofs.Common.{◌≡◌, IsTrue, ◌↔◌, Some, sym, subst}
use Rattle.settle.specs.Input.{setup_for}
use Rattle.settle.specs.Losing.{StillHas}
use Rattle.settle.specs.Standing.{call_in, call_coming}
use Rattle.settle.proofs.Looked.{collects_here}
use Rattle.settle.proofs.replay.Replay.brings.Goals as goal

pub returns-in-Deliver : goal.returns-in-Deliver
returns-in-Deliver c input acts history plays =
    subst (λ act. StillHas plays.own history act → IsTrue c.brings_at.result ↔ (call_coming (setup_for input) history c.args.partition act ≡ Some c.args.event.now.call)) (sym c.in-Deliver.is)
    (λ has. subst (λ m. IsTrue c.brings_at.result ↔ (call_in c.args.partition m ≡ Some c.args.event.now.call)) has (c.brings_at.ensures input acts history plays))

pub returns-then-place-partition : goal.returns-then-place-partition
returns-then-place-partition c input acts history plays has =
    subst (λ act. IsTrue c.has_call.result ↔ (call_coming (setup_for input) history c.args.partition act ≡ Some c.args.event.now.call)) (sym c.in-Collect.is)
    (collects_here (setup_for input) history c.args.partition c.in-Collect.place c.keep.result c.args.event.now.call c.has_call.result c.if-place-partition.true (c.keep.ensures input acts history plays) c.has_call.ensures)
