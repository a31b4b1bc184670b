use Rattle.std.proofs.Common.{◌≡◌, map, take}
use Rattle.closed_store.specs.Joins.{given_for}
use Rattle.closed_store.proofs.join.joining.epochs_for.Given as goal

abbrev pub invariant-loop-part : goal.invariant-loop-part
invariant-loop-part l = map (λ e. e.now) l.own.items ≡ given_for (take l.part-index l.given) l.partition l.tenant
