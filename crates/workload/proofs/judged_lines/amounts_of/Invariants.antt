use Rattle.std.proofs.Common.{◌≡◌, Some, length, slice_get}
use Rattle.workload.specs.Amounts.{IsAmountOf}
use Rattle.workload.specs.declared.judged_lines.Amount.{Amount}
use Rattle.std.proofs.Common.{ℕ}
use Rattle.workload.proofs.judged_lines.amounts_of.Given as goal

abbrev pub invariant-loop-tenant : goal.invariant-loop-tenant
invariant-loop-tenant l = record {
  count : length l.amounts.items ≡ l.tenant;
  each : (tenant : ℕ) (amount : Amount) → slice_get l.amounts.items tenant ≡ Some amount → IsAmountOf l.closed tenant amount;
}
