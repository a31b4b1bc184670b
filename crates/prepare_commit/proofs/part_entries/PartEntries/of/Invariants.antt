use Rattle.std.proofs.Common.{◌≡◌, length, take}
use Rattle.prepare_commit.specs.Floors.{AreKeys, with_floors}
use Rattle.prepare_commit.proofs.part_entries.PartEntries.of.Given as goal

abbrev pub invariant-loop-nth : goal.invariant-loop-nth
invariant-loop-nth l =
    AreKeys l.keys.items × (length l.keys.items ≡ length l.floors.items)
    × (with_floors l.keys.items l.floors.items ≡ take l.nth l.entries)
