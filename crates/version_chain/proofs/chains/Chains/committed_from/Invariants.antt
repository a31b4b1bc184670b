use Rattle.std.proofs.Common.{◌≡◌, length}
use Rattle.version_chain.specs.Chain.{follow}
use Rattle.version_chain.specs.Place.{versions_from}
use Rattle.version_chain.proofs.Latest.{first_committed}
use Rattle.version_chain.proofs.Walks.{At}
use Rattle.version_chain.proofs.chains.Chains.committed_from.Given as goal

abbrev pub invariant-loop-here : goal.invariant-loop-here
invariant-loop-here l = (at : At l.block l.self.tenant l.chain l.here) × (first_committed at.rest ≡ first_committed (versions_from l.block l.fn.from))

abbrev pub decreases-loop-here : goal.decreases-loop-here
decreases-loop-here l = length (follow l.block (length l.block) l.here)
