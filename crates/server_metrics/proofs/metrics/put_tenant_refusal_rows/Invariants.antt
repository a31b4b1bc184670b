use Rattle.std.proofs.Common.{◌≡◌, ◌++◌, take}
use Rattle.std.specs.Prelude.{string_bytes}
use Rattle.server_metrics.specs.MetricsText.{tenant_refusal_rows_text}
use Rattle.server_metrics.proofs.metrics.put_tenant_refusal_rows.Given as goal

-- those so far
abbrev pub invariant-loop-row : goal.invariant-loop-row
invariant-loop-row l = string_bytes l.text ≡ string_bytes l.fn.text ++ tenant_refusal_rows_text (take l.row-index l.rows)
