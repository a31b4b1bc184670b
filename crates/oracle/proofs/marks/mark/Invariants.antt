use Rattle.std.proofs.Common.{◌≡◌, filter, take}
use Rattle.plain_store.specs.Marks.{is_of_client}
use Rattle.oracle.proofs.marks.mark.Given as goal

abbrev pub invariant-loop-stamp : goal.invariant-loop-stamp
invariant-loop-stamp l = l.own.items ≡ filter (is_of_client l.client) (take l.stamp-index l.stamp-items)
