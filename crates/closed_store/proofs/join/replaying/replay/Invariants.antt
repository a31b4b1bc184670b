use Rattle.std.proofs.Common.{◌<◌, [], length, map, take}
use Rattle.partition.specs.Journals.{room_for}
use Rattle.closed_store.specs.Joins.{IsAmid, events_of}
use Rattle.closed_store.proofs.Replayed.{TurnsBelow}
use Rattle.closed_store.proofs.join.replaying.replay.Given as goal

abbrev pub invariant-loop-place : goal.invariant-loop-place
invariant-loop-place l =
    (0 < length l.book)
    × IsAmid l.limits (room_for l.limits) (events_of (take l.place (map (λ e. e.now) l.epochs))) [] l.book
    × TurnsBelow (room_for l.limits) (map (λ e. e.now) l.epochs) l.place
