-- Of how much the verdicts over a store that was closed are.
use Rattle.std.specs.Prelude.{◌≡◌, ◌+◌, ℕ, List, [], ◌++◌, Bool, true, false, Option, Some, None, Result, codes, decimal}
use Rattle.std.specs.Prelude.{length, slice_get, sum_by}
use Rattle.std.specs.Global.{Vec}
use Rattle.partition.specs.declared.journal.Journal.{Journal}
use Rattle.closed_store.specs.declared.closed.Closed.{Closed}
use Rattle.line_runs.specs.declared.fault.ProgramFault.{ProgramFault}
use Rattle.server_verdicts.specs.Begun.{BegunCounts, counts_begun, told_count}
use Rattle.workload.specs.declared.judged_lines.Amount.{Amount}
use Rattle.workload.specs.TenantLines.{TellsLines}

-- of how many calls a journal is: those of earlier epochs, and those of the epoch that is left in it
abbrev pub calls_in : Option Journal → ℕ
calls_in None = 0
calls_in (Some journal) = journal.before + length journal.events.items

-- of how many that of a tenant is, among the journals of a partition
abbrev pub calls_at : ℕ → Vec Journal → ℕ
calls_at tenant row = calls_in (slice_get row.items tenant)

-- of how many those of a tenant are at all partitions, as it is reported
abbrev pub calls_of : Closed → ℕ → ℕ
calls_of closed tenant = told_count (sum_by (calls_at tenant) closed.journals.items)

-- how many operations there are of all three kinds
abbrev pub of_all_kinds : BegunCounts → ℕ
of_all_kinds counts = counts.puts + counts.gets + counts.finds

-- how many puts, gets and finds the sessions of a tenant began, as it is reported
abbrev pub operations_of : Closed → ℕ → ℕ
operations_of closed tenant = told_count (sum_by (counts_begun of_all_kinds tenant) closed.transcripts.items)

-- so many calls and operations the record of a tenant has
pub record IsAmountOf (closed : Closed) (tenant : ℕ) (amount : Amount) : Type 0 where
  pub calls : amount.calls ≡ calls_of closed tenant
  pub operations : amount.operations ≡ operations_of closed tenant

-- these are the amounts of a store's tenants, in their order
pub record AreAmounts (closed : Closed) (amounts : List Amount) : Type 0 where
  pub count : length amounts ≡ length closed.config.limits.items
  pub each : (tenant : ℕ) (amount : Amount) → slice_get amounts tenant ≡ Some amount → IsAmountOf closed tenant amount

-- what a line says of the operations: their number where transcripts are judged
abbrev pub operations_text : Bool → ℕ → List ℕ
operations_text true operations = codes " operations " ++ decimal operations
operations_text false operations = []

-- the line that reports of how much the verdict over the tenant of a name is
abbrev pub judged_line : Bool → List ℕ → Amount → List ℕ
judged_line with_operations name amount =
    codes "judged " ++ name ++ codes " calls " ++ decimal amount.calls
    ++ operations_text with_operations amount.operations ++ codes "\n"

-- what was reported of the amounts that ended so
abbrev pub TellsAmounts : Bool → Closed → List (List ℕ) → Option (List ℕ) → Option (List ℕ)
    → Result (Unit {0}) ProgramFault → Type 0
TellsAmounts with_operations closed =
    TellsLines (judged_line with_operations) (IsAmountOf closed) (length closed.config.limits.items)
