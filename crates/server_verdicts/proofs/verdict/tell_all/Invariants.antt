use Rattle.server_verdicts.proofs.ToldVerdicts.{TellsFirst}
use Rattle.server_verdicts.proofs.verdict.tell_all.Given as goal

abbrev pub invariant-loop-tenant : goal.invariant-loop-tenant
invariant-loop-tenant g l = TellsFirst (g.J.Judge.is_verdict l.judge) l.word l.names l.tenant l.all_yes (g.W.Write.contents l.initial.writer) (g.W.Write.contents l.writer)
