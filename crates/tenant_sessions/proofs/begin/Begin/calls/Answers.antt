use Rattle.std.proofs.Common.{sym}
use Rattle.tenant_sessions.proofs.Started.{begin_sends}
use Rattle.tenant_sessions.proofs.begin.Begin.calls.Goals as goal

pub returns-clause-sent : goal.returns-clause-sent
returns-clause-sent c setup history act begins = sym (begin_sends setup history act c.args.self.now begins)
