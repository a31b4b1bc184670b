use Rattle.std.proofs.Common.{◌-◌, ◌≤◌, length, Bool}
use Rattle.std.specs.Fn.{ComputesKey}
use denote.Param.Always.{always_mut}
use Rattle.lists.proofs.Searching.{Parted}
use Rattle.lists.proofs.row_list.RowList.partition_point.Given as goal

-- where the first element that fails may stand
abbrev pub invariant-loop-low : goal.invariant-loop-low
invariant-loop-low g l =
    (l.low ≤ l.high) × (l.high ≤ length l.self.items) × always_mut g.F.FnMut l.passes
    × ((p : g.row.T.Denot → Bool) → ComputesKey g.F.FnMut p l.initial.passes → ComputesKey g.F.FnMut p l.passes × Parted p l.self.items l.low l.high)

abbrev pub decreases-loop-low : goal.decreases-loop-low
decreases-loop-low g l = l.high - l.low
