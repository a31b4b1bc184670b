use Rattle.std.proofs.Common.{◌≡◌, ◌==◌, ◌||◌, ℕ, false, length, take, get_or}
use Rattle.std.specs.List.{list_any}
use Rattle.prepare_commit.proofs.changed.ChangedChains.note_each.Given as goal

abbrev pub invariant-loop-chain : goal.invariant-loop-chain
invariant-loop-chain l =
    (length l.self ≡ length l.fn.self)
    × ((n : ℕ) → get_or l.self n false ≡ (get_or l.fn.self n false || list_any (λ m. m == n) (take l.chain-index l.numbers)))
