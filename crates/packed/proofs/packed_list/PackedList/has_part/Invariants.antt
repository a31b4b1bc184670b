use Rattle.std.proofs.Common.{◌≡◌, take, drop}
use Rattle.packed.proofs.packed_list.PackedList.has_part.Given as goal

abbrev pub invariant-loop-nth : goal.invariant-loop-nth
invariant-loop-nth l = take l.nth (drop l.at l.self.items) ≡ take l.nth (drop l.from l.other.items)
