use Rattle.std.proofs.Common.{◌≡◌, ◌+◌, ◌<◌, ℕ, get_or}
use Rattle.load.proofs.all_there.count_up_to.Given as goal

-- each number so far is the one after its place
abbrev pub invariant-loop-place : goal.invariant-loop-place
invariant-loop-place l = (i : ℕ) → i < l.place → get_or l.numbers i 0 ≡ i + 1
