use Rattle.std.proofs.Common.{◌≡◌, ℕ, ◌<◌, true, length, get_or}
use Rattle.version_chain.specs.declared.stamp_list.Kept.{Kept}
use Rattle.version_chain.specs.Listed.{is_named}
use Rattle.version_chain.proofs.Places.{places}
use Rattle.version_chain.proofs.chains.Chains.has_unheld.Given as goal

-- so far each is held
abbrev pub invariant-loop-place : goal.invariant-loop-place
invariant-loop-place l =
    (i : ℕ) (k : Kept) → i < l.place → i < length (places l.self l.fn.stamp) → k ≡ get_or (places l.self l.fn.stamp) i k → is_named l.self.tenant l.block k ≡ true
