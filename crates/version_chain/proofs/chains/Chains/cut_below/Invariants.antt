use Rattle.std.proofs.Common.{length}
use Rattle.version_chain.specs.Chain.{chain_versions}
use Rattle.version_chain.proofs.Cutting.{Cut}
use Rattle.version_chain.proofs.chains.Chains.cut_below.Given as goal

abbrev pub invariant-loop-here : goal.invariant-loop-here
invariant-loop-here l = Cut l.initial.block l.block l.initial.self l.self l.chain l.fn.floor l.last l.here

abbrev pub decreases-loop-here : goal.decreases-loop-here
decreases-loop-here l = length (chain_versions l.block l.self l.chain)
