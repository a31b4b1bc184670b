use Rattle.std.proofs.Common.{◌≡◌, ◌++◌, take}
use Rattle.std.specs.Prelude.{string_bytes}
use Rattle.server_metrics.specs.MetricsText.{refusals_of}
use Rattle.server_metrics.proofs.metrics.put_refusals_of.Given as goal

-- those so far
abbrev pub invariant-loop-row : goal.invariant-loop-row
invariant-loop-row l = string_bytes l.text ≡ string_bytes l.fn.text ++ refusals_of l.tenant (take l.row-index l.refusals)
