use Rattle.std.proofs.Common.{◌≡◌, ◌++◌, take}
use Rattle.std.specs.Prelude.{string_bytes}
use Rattle.server_metrics.specs.MetricsText.{families_text}
use Rattle.server_metrics.proofs.metrics.put_families.Given as goal

-- those so far
abbrev pub invariant-loop-family : goal.invariant-loop-family
invariant-loop-family l = string_bytes l.text ≡ string_bytes l.fn.text ++ families_text l.rows (take l.family-index l.families)
