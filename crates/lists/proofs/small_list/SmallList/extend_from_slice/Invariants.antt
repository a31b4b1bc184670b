use Rattle.std.proofs.Common.{◌≡◌, ◌++◌, take}
use Rattle.lists.proofs.small_list.SmallList.extend_from_slice.Given as goal

-- the elements so far were added
abbrev pub invariant-loop-value : goal.invariant-loop-value
invariant-loop-value g l = l.self ≡ l.initial.self ++ take l.value-index l.values
