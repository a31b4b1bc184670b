use Rattle.std.proofs.Common.{◌≡◌, ◌+◌, take}
use Rattle.std.specs.Prelude.{sum_by}
use Rattle.server_verdicts.specs.Begun.{counts_begun, told_count}
use Rattle.load.proofs.tally.count_in.Given as goal

abbrev pub invariant-loop-transcript : goal.invariant-loop-transcript
invariant-loop-transcript l = record {
  puts : l.begun.puts ≡ told_count (0 + sum_by (counts_begun (λ k. k.puts) l.tenant) (take l.transcript-index l.transcripts));
  gets : l.begun.gets ≡ told_count (0 + sum_by (counts_begun (λ k. k.gets) l.tenant) (take l.transcript-index l.transcripts));
  finds : l.begun.finds ≡ told_count (0 + sum_by (counts_begun (λ k. k.finds) l.tenant) (take l.transcript-index l.transcripts));
}
