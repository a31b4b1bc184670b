use Rattle.std.proofs.Common.{◌≡◌, ◌-◌, ◌^◌, ◌⊎◌, ◌<◌, ◌≤◌, ℕ, get_or}
use Rattle.prepare_commit.proofs.retire.emptiest.Given as goal

abbrev pub invariant-loop-nth : goal.invariant-loop-nth
invariant-loop-nth l =
    (l.best ≤ l.nth - 1) × ((k : ℕ) → k < l.nth → l.fewest ≤ get_or l.kept k 0)
    × ((l.fewest ≡ get_or l.kept l.best 0) ⊎ (l.fewest ≡ 2 ^ 64 - 1))
