use Rattle.std.proofs.Common.{◌≡◌, ℕ, [], true, false, length, get_or}
use Rattle.prepare_commit.proofs.parts.PartList.same.Given as goal

abbrev pub invariant-loop-nth : goal.invariant-loop-nth
invariant-loop-nth l =
    (length l.same.items ≡ l.nth)
    × ((part : ℕ) → get_or l.same.items part false ≡ true → get_or l.self part [] ≡ get_or l.other part [])
