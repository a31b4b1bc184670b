use Rattle.server_verdicts.proofs.ToldVerdicts.{TellsCountsOf}
use Rattle.load.proofs.tally.tell_begun.Given as goal

abbrev pub invariant-loop-tenant : goal.invariant-loop-tenant
invariant-loop-tenant g l = TellsCountsOf l.closed l.names l.tenant (g.W.Write.contents l.initial.writer) (g.W.Write.contents l.writer)
