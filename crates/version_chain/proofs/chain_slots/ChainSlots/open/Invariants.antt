use Rattle.std.proofs.Common.{◌≡◌, ◌≤◌, replicate, vec_capacity}
use Rattle.version_chain.proofs.BothSlots.{no_slots}
use Rattle.version_chain.proofs.chain_slots.ChainSlots.open.Given as goal

abbrev pub invariant-loop-chain : goal.invariant-loop-chain
invariant-loop-chain l = (l.slots.items ≡ replicate l._chain no_slots) × (l.chains ≤ vec_capacity l.slots) × (l._chain ≤ l.chains)
