use Rattle.std.proofs.Common.{◌≡◌, ◌+◌, take}
use Rattle.std.specs.Prelude.{sum_by}
use Rattle.server_verdicts.specs.Begun.{counts_begun, told_count}
use Rattle.workload.specs.Amounts.{of_all_kinds}
use Rattle.workload.proofs.judged_lines.operations_in.Given as goal

abbrev pub invariant-loop-transcript : goal.invariant-loop-transcript
invariant-loop-transcript l = l.operations ≡ told_count (0 + sum_by (counts_begun of_all_kinds l.tenant) (take l.transcript-index l.transcripts))
