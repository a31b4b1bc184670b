use Rattle.std.proofs.Common.{◌≡◌, ◌≤◌, ◌++◌, length, take}
use Rattle.entry_list.proofs.packed_entries.EntryList.append.Given as goal

abbrev pub invariant-loop-at : goal.invariant-loop-at
invariant-loop-at l = record {
  appended : l.self.items ≡ l.fn.self.items ++ take l.at l.other.items;
  within : l.at ≤ length l.other.items;
}
