use Rattle.std.proofs.Common.{◌≡◌, ap, is_some}
use Rattle.version_chain.specs.Heads.{head}
use Rattle.version_chain.proofs.Walks.{at_head, on_cell, read_cell, step}
use Rattle.version_chain.proofs.chains.Chains.near.Goals as goal

pub loop-step-init : goal.loop-step-init
loop-step-init c =
    let first : c.head-here.result ≡ head c.args.self.now c.args.chain = rw (← c.self.view_is) c.head-here.ensures in
    rw first (at_head _ _ c.args.chain c.requires.stands c.requires.known)

pub get-requires : goal.get-requires
get-requires c = ap is_some (on_cell _ _ _ _ _ _ c.loop-step.invariant.chained c.in-Some.is).found

pub loop-step-preserved : goal.loop-step-preserved
loop-step-preserved c =
    let read = read_cell _ _ _ _ _ _ (on_cell _ _ _ _ _ _ c.loop-step.invariant.chained c.in-Some.is) c.get.ensures in
    rw c.next-here.ensures (step _ _ _ _ _ _ c.loop-step.invariant read)
