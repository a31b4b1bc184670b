use Rattle.std.proofs.Common.{◌≡◌, ◌++◌, take}
use Rattle.std.specs.Prelude.{string_bytes}
use Rattle.server_metrics.specs.TimesText.{buckets_text}
use Rattle.server_metrics.proofs.times.put_buckets.Given as goal

-- those so far
abbrev pub invariant-loop-row : goal.invariant-loop-row
invariant-loop-row l = string_bytes l.text ≡ string_bytes l.fn.text ++ buckets_text l.family (take l.row-index l.rows)
