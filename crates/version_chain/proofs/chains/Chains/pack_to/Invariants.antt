use Rattle.std.proofs.Common.{◌≡◌, ◌++◌, length}
use Rattle.version_chain.specs.Chain.{follow, chain_versions}
use Rattle.version_chain.proofs.Walks.{At}
use Rattle.version_chain.proofs.chains.Chains.pack_to.Given as goal

abbrev pub invariant-loop-here : goal.invariant-loop-here
invariant-loop-here l =
    (at : At l.block l.self.tenant l.chain l.here) × (l.list ++ at.rest ≡ l.initial.list ++ chain_versions l.block l.self l.chain)

abbrev pub decreases-loop-here : goal.decreases-loop-here
decreases-loop-here l = length (follow l.block (length l.block) l.here)
