use Rattle.std.proofs.Common.{◌-◌, ◌≤◌, length, Ordering}
use Rattle.std.specs.Fn.{ComputesKey}
use denote.Param.Always.{always_mut}
use Rattle.lists.proofs.Searching.{Narrowed}
use Rattle.lists.proofs.row_list.RowList.binary_search_by.Given as goal

-- where the element may stand
abbrev pub invariant-loop-low : goal.invariant-loop-low
invariant-loop-low g l =
    (l.low ≤ l.high) × (l.high ≤ length l.self.items) × always_mut g.F.FnMut l.compare
    × ((ord : g.row.T.Denot → Ordering) → ComputesKey g.F.FnMut ord l.initial.compare → ComputesKey g.F.FnMut ord l.compare × Narrowed ord l.self.items l.low l.high)

abbrev pub decreases-loop-low : goal.decreases-loop-low
decreases-loop-low g l = l.high - l.low
