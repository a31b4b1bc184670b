use Rattle.std.proofs.Common.{◌≡◌, ◌-◌, ◌+◌, ◌++◌}
use Rattle.settle.specs.Trace.{numbers_from}
use Rattle.settle.proofs.steps_taken.push_rows.Given as goal

-- the rows so far were added
abbrev pub invariant-loop-row : goal.invariant-loop-row
invariant-loop-row l = l.list.items ++ numbers_from l.row (l.row-end + 1 - l.row) ≡ l.fn.list.items ++ numbers_from l.initial.row (l.row-end + 1 - l.initial.row)
