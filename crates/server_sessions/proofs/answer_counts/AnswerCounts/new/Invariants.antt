use Rattle.std.proofs.Common.{◌≡◌, vec_len}
use Rattle.server_sessions.proofs.answer_counts.AnswerCounts.new.Given as goal

abbrev pub invariant-loop-number : goal.invariant-loop-number
invariant-loop-number l = vec_len l.refusals ≡ l._number
