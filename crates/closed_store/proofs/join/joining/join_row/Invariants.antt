use Rattle.std.proofs.Common.{◌≡◌, ◌++◌}
use Rattle.std.specs.Vec.Iter.{into_iter_items}
use Rattle.closed_store.specs.Joins.{IsRowJoined}
use Rattle.closed_store.proofs.join.joining.join_row.Given as goal

-- of each journal so far there is the joined one
abbrev pub invariant-loop-journal : goal.invariant-loop-journal
invariant-loop-journal l =
    (l.fn.row.items ≡ l.yielded ++ into_iter_items l.journal-iterator)
    × IsRowJoined l.limits l.given l.partition l.yielded l.joined.items
