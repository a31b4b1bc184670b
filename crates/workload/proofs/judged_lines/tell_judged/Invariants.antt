use Rattle.std.proofs.Common.{◌≡◌, Some, slice_get}
use Rattle.workload.specs.Amounts.{judged_line}
use Rattle.workload.proofs.ToldLines.{TellsLinesOf}
use Rattle.workload.proofs.judged_lines.tell_judged.Given as goal

abbrev pub invariant-loop-tenant : goal.invariant-loop-tenant
invariant-loop-tenant g l = TellsLinesOf (judged_line l.with_operations) (λ tenant amount. slice_get l.amounts tenant ≡ Some amount) l.names l.tenant (g.W.Write.contents l.initial.writer) (g.W.Write.contents l.writer)
