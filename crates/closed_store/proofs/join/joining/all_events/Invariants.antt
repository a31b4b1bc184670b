use Rattle.std.proofs.Common.{◌≡◌, map, take}
use Rattle.closed_store.specs.Joins.{events_of}
use Rattle.closed_store.proofs.join.joining.all_events.Given as goal

abbrev pub invariant-loop-epoch : goal.invariant-loop-epoch
invariant-loop-epoch l = l.all.items ≡ events_of (take l.epoch-index (map (λ e. e.now) l.epochs))
