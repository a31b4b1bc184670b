use Rattle.std.proofs.Common.{◌≡◌, length, slice_get}
use Rattle.version_chain.specs.Chain.{follow, chain_versions}
use Rattle.version_chain.proofs.Walks.{At}
use Rattle.version_chain.proofs.chains.Chains.nth.Given as goal

abbrev pub invariant-loop-here : goal.invariant-loop-here
invariant-loop-here l =
    (at : At l.block l.self.tenant l.chain l.here) × (slice_get at.rest l.left ≡ slice_get (chain_versions l.block l.self l.chain) l.index)

abbrev pub decreases-loop-here : goal.decreases-loop-here
decreases-loop-here l = length (follow l.block (length l.block) l.here)
