use Rattle.std.proofs.Common.{◌≡◌, ◌+◌, ◌≤◌, length, take}
use Rattle.std.specs.Prelude.{sum_by}
use Rattle.server_verdicts.specs.Begun.{counts_of_entry, told_count}
use Rattle.workload.specs.Amounts.{of_all_kinds}
use Rattle.workload.proofs.judged_lines.with_begun.Given as goal

abbrev pub invariant-loop-at : goal.invariant-loop-at
invariant-loop-at l = record {
  so_far : l.begun ≡ told_count (l.initial.begun + sum_by (λ e. of_all_kinds (counts_of_entry e)) (take l.at l.entries.items));
  within : l.at ≤ length l.entries.items;
}
