use Rattle.std.proofs.Common.{◌≡◌, length, take}
use Rattle.packed.specs.Cuts.{IsCut, pieces}
use Rattle.prepare_commit.specs.Begun.{LieAt, beside, holdings, put_at}
use Rattle.prepare_commit.specs.Layout.{chain_lists}
use Rattle.prepare_commit.proofs.copies.held_items.Given as goal

abbrev pub invariant-loop-nth : goal.invariant-loop-nth
invariant-loop-nth l =
    IsCut 0 l.ends.items (length l.found)
    × (length l.ends.items ≡ length l.entries.items)
    × LieAt (put_at l.last.parts l.free (beside l.entries.items (pieces l.found 0 l.ends.items))) l.places.items (holdings (take l.nth l.items.items) (chain_lists l.block l.versions.chains))
