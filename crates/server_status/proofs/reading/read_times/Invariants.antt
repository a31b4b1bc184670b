use Rattle.std.proofs.Common.{◌<◌, ◌^◌}
use Rattle.server_metrics.specs.TimesText.{AreRising}
use Rattle.server_status.proofs.reading.read_times.Given as goal

-- those of the classes so far
abbrev pub invariant-loop-class : goal.invariant-loop-class
invariant-loop-class l = AreRising 0 l.rows.items l.lines × (l.lines < 2 ^ 64)
