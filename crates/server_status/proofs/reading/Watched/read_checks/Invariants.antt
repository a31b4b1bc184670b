use Rattle.std.proofs.Common.{◌≡◌}
use Rattle.std.specs.Prelude.{length}
use Rattle.server_status.specs.Reported.{AreChecksFrom}
use Rattle.server_status.proofs.reading.Watched.read_checks.Given as goal

-- those of the tenants so far
abbrev pub invariant-loop-tenant : goal.invariant-loop-tenant
invariant-loop-tenant g l =
    (length l.checks.items ≡ l.tenant) × AreChecksFrom g.C.JournalChecks.has_told l.self l.partition 0 l.checks.items
