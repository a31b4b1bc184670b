use Rattle.server_verdicts.proofs.ToldVerdicts.{told_as}
use Rattle.server_verdicts.proofs.verdict.is_settled.Goals as goal

pub returns : goal.returns
returns c = told_as c.args.closed.now c.args.tenant c.settle-answer.result c.verdict_of.result c.settle-answer.ensures c.verdict_of.ensures.list c.verdict_of.ensures.fault
