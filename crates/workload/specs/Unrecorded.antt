-- What a server that records nothing reports of its tenants.
use Rattle.std.specs.Prelude.{◌≡◌, ℕ, List, ◌++◌, Option, Result, codes, decimal}
use Rattle.line_runs.specs.declared.fault.ProgramFault.{ProgramFault}
use Rattle.server_sessions.specs.declared.tenant_counts.ServedCounts.{ServedCounts}
use Rattle.workload.specs.TenantLines.{TellsLines}

-- the line that reports how many lines of the seats of the tenant of a name were answered, and how
abbrev pub served_line : List ℕ → ServedCounts → List ℕ
served_line name counts =
    codes "served " ++ name ++ codes " puts " ++ decimal counts.puts ++ codes " gets " ++ decimal counts.gets
    ++ codes " finds " ++ decimal counts.finds ++ codes " refusals " ++ decimal counts.refusals
    ++ codes " restarts " ++ decimal counts.restarts ++ codes "\n"

-- these were read as those of the tenant
abbrev pub IsServedOf : ℕ → ServedCounts → Type 0
IsServedOf tenant counts = counts.tenant ≡ tenant

-- what was reported that ended so
abbrev pub TellsServed : ℕ → List (List ℕ) → Option (List ℕ) → Option (List ℕ)
    → Result (Unit {0}) ProgramFault → Type 0
TellsServed = TellsLines served_line IsServedOf
