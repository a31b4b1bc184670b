use Rattle.std.proofs.Common.{◌≡◌, ◌<◌, ℕ, length, get_or}
use Rattle.prepare_commit.specs.declared.items.ChainedItem.{ChainedItem}
use Rattle.prepare_commit.specs.Begun.{no_place}
use Rattle.prepare_commit.proofs.copies.set_spots.Given as goal

abbrev pub invariant-loop-nth : goal.invariant-loop-nth
invariant-loop-nth l =
    (length l.spots.items ≡ length l.fn.spots.items)
    × ((n : ℕ) (d : ChainedItem) → n < l.nth → get_or l.spots.items (get_or l.items.items n d).chain no_place ≡ get_or l.places n no_place)
