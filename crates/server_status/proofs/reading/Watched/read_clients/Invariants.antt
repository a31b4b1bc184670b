use Rattle.std.proofs.Common.{◌≡◌, ◌≤◌, length}
use Rattle.server_status.specs.Reported.{AreClientRows}
use Rattle.server_status.proofs.reading.Watched.read_clients.Given as goal

-- those of the tenants so far, which have limits
abbrev pub invariant-loop-tenant : goal.invariant-loop-tenant
invariant-loop-tenant g l = record {
  each : AreClientRows l.self.names.now l.self.hub.now.limits l.clients.items;
  so_far : length l.clients.items ≡ l.tenant;
  limited : l.tenant ≤ length l.self.hub.now.limits;
}
