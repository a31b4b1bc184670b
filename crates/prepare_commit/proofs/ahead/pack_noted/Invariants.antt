use Rattle.std.proofs.Common.{◌≡◌, length}
use Rattle.prepare_commit.specs.Ahead.{PacksInto}
use Rattle.prepare_commit.proofs.ahead.pack_noted.Given as goal

abbrev pub invariant-loop-nth : goal.invariant-loop-nth
invariant-loop-nth l =
    PacksInto l.free l.block l.versions l.items.items l.last l.part
    × (length l.last.spots.items ≡ length l.initial.last.spots.items) × (length l.last.since ≡ length l.initial.last.since)
