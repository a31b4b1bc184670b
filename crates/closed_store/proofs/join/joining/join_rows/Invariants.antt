use Rattle.std.proofs.Common.{◌≡◌, ◌++◌}
use Rattle.std.specs.Vec.Iter.{into_iter_items}
use Rattle.closed_store.proofs.JoinedRows.{RowsJoined}
use Rattle.closed_store.proofs.join.joining.join_rows.Given as goal

-- of each row so far there is the joined one
abbrev pub invariant-loop-row : goal.invariant-loop-row
invariant-loop-row l =
    (l.fn.rows.items ≡ l.yielded ++ into_iter_items l.row-iterator)
    × RowsJoined l.limits l.given l.yielded l.joined.items
