use Rattle.std.proofs.Common.{◌≡◌, ◌+◌, ◌≤◌, length, take}
use Rattle.std.specs.Prelude.{sum_by}
use Rattle.server_verdicts.specs.Begun.{counts_of_entry, told_count}
use Rattle.load.proofs.tally.Begun.with_all.Given as goal

abbrev pub invariant-loop-at : goal.invariant-loop-at
invariant-loop-at l = record {
  puts : l.begun.puts ≡ told_count (l.initial.begun.puts + sum_by (λ e. (counts_of_entry e).puts) (take l.at l.entries.items));
  gets : l.begun.gets ≡ told_count (l.initial.begun.gets + sum_by (λ e. (counts_of_entry e).gets) (take l.at l.entries.items));
  finds : l.begun.finds ≡ told_count (l.initial.begun.finds + sum_by (λ e. (counts_of_entry e).finds) (take l.at l.entries.items));
  within : l.at ≤ length l.entries.items;
}
