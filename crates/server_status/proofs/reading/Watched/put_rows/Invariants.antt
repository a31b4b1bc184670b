use Rattle.std.proofs.Common.{take}
use Rattle.server_status.specs.Reported.{AreRowsBehind}
use Rattle.server_status.proofs.reading.Watched.put_rows.Given as goal

-- those so far
abbrev pub invariant-loop-tenant : goal.invariant-loop-tenant
invariant-loop-tenant g l =
    AreRowsBehind l.partition l.self.names.now l.self.hub.now.limits l.checks (take l.tenant l.usages) l.fn.rows.items l.rows.items
