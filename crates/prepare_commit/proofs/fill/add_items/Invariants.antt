use Rattle.std.proofs.Common.{◌≡◌, length, take}
use Rattle.prepare_commit.specs.Bases.{AreNumbered}
use Rattle.prepare_commit.specs.Begun.{entries_in}
use Rattle.prepare_commit.specs.Layout.{entries_of}
use Rattle.prepare_commit.proofs.fill.add_items.Given as goal

abbrev pub invariant-loop-place : goal.invariant-loop-place
invariant-loop-place l =
    (entries_of l.items.items ≡ take l.place (entries_in l.held)) × AreNumbered l.items.items
    × (length l.items.items ≡ l.place) × (l.items.room ≡ l.initial.items.room)
