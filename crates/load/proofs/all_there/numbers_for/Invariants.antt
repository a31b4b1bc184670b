use Rattle.std.proofs.Common.{◌≡◌, map, take}
use Rattle.closed_store.specs.Joins.{given_for}
use Rattle.load.proofs.all_there.numbers_for.Given as goal

abbrev pub invariant-loop-part : goal.invariant-loop-part
invariant-loop-part l = l.numbers.items ≡ map (λ e. e.number) (given_for (take l.part-index l.given) l.partition l.tenant)
