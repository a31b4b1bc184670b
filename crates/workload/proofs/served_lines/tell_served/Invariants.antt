use Rattle.workload.specs.Unrecorded.{IsServedOf, served_line}
use Rattle.workload.proofs.ToldLines.{TellsLinesOf}
use Rattle.workload.proofs.served_lines.tell_served.Given as goal

abbrev pub invariant-loop-tenant : goal.invariant-loop-tenant
invariant-loop-tenant g l = TellsLinesOf served_line IsServedOf l.names l.tenant (g.W.Write.contents l.initial.writer) (g.W.Write.contents l.writer)
