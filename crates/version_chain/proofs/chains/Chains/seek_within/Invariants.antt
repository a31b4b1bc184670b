use Rattle.version_chain.specs.Place.{least_of}
use Rattle.version_chain.proofs.Seeking.{Reached}
use Rattle.version_chain.proofs.chains.Chains.seek_within.Given as goal

abbrev pub invariant-loop-step : goal.invariant-loop-step
invariant-loop-step l = Reached l.block l.self l.chain (least_of l.bound) l.last l.here
