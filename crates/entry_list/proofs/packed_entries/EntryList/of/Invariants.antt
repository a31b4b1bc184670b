use Rattle.std.proofs.Common.{◌≡◌, take}
use Rattle.entry_list.proofs.packed_entries.EntryList.of.Given as goal

abbrev pub invariant-loop-entry : goal.invariant-loop-entry
invariant-loop-entry l = l.list.items ≡ take l.entry-index l.entries
