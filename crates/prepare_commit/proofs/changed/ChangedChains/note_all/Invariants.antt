use Rattle.std.proofs.Common.{◌≡◌, ◌<◌, ℕ, true, false, length, get_or}
use Rattle.prepare_commit.proofs.changed.ChangedChains.note_all.Given as goal

abbrev pub invariant-loop-chain : goal.invariant-loop-chain
invariant-loop-chain l = (length l.self ≡ length l.fn.self) × ((n : ℕ) → n < l.chain → get_or l.self n false ≡ true)
