use Rattle.version_chain.proofs.StampParts.{IsRun}
use Rattle.version_chain.proofs.stamp_list.end_of_run.Given as goal

-- so far each is of the stamp
abbrev pub invariant-loop-end : goal.invariant-loop-end
invariant-loop-end l = IsRun l.list l.stamp l.first l.end
