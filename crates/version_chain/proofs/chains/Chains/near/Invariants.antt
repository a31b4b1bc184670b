use Rattle.version_chain.proofs.Walks.{At}
use Rattle.version_chain.proofs.chains.Chains.near.Given as goal

abbrev pub invariant-loop-step : goal.invariant-loop-step
invariant-loop-step l = At l.block l.self.tenant l.chain l.here
