use Rattle.std.proofs.Common.{◌≡◌, ◌+◌, take}
use Rattle.std.specs.Prelude.{sum_by}
use Rattle.server_verdicts.specs.Begun.{told_count}
use Rattle.workload.specs.Amounts.{calls_at}
use Rattle.workload.proofs.judged_lines.calls_in.Given as goal

abbrev pub invariant-loop-row : goal.invariant-loop-row
invariant-loop-row l = l.calls ≡ told_count (0 + sum_by (calls_at l.tenant) (take l.row-index l.rows))
