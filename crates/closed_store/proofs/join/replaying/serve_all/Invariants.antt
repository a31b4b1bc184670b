use Rattle.std.proofs.Common.{◌<◌, List, [], length, take}
use Rattle.stamps.specs.declared.bounds.Limits.{Limits}
use Rattle.partition.specs.declared.journal.Event.{Event}
use Rattle.partition.specs.Journals.{room_for}
use Rattle.closed_store.specs.Joins.{IsAmid}
use Rattle.closed_store.proofs.Replayed.{RepliesBelow}
use Rattle.closed_store.proofs.join.replaying.serve_all.Given as goal

abbrev pub invariant-loop-place : goal.invariant-loop-place
invariant-loop-place l =
    (0 < length l.book)
    × ((limits : Limits) (before : List Event) → IsAmid limits (room_for limits) before [] l.initial.book
    → RepliesBelow (room_for limits) before l.events.items l.place × IsAmid limits (room_for limits) before (take l.place l.events.items) l.book)
