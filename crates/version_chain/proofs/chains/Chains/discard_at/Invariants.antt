use Rattle.std.proofs.Common.{◌≡◌, ◌+◌}
use Rattle.version_chain.proofs.Discarding.{SoDropped}
use Rattle.version_chain.proofs.chains.Chains.discard_at.Given as goal

abbrev pub invariant-loop-place : goal.invariant-loop-place
invariant-loop-place l =
    SoDropped l.initial.block l.block l.initial.self l.self l.stamp l.place l.dropped × (l.visits ≡ l.initial.visits + l.place)
