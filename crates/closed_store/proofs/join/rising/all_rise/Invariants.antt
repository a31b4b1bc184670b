use Rattle.closed_store.proofs.Below.{EachBelow, RowRises}
use Rattle.closed_store.proofs.join.rising.all_rise.Given as goal

abbrev pub invariant-loop-row : goal.invariant-loop-row
invariant-loop-row l = EachBelow RowRises l.rows l.row-index
