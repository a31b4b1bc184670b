use Rattle.std.proofs.Common.{◌≡◌, ◌+◌, length}
use Rattle.memchr.specs.Find.{places, is_byte}
use Rattle.server_sessions.specs.LineTiming.{line_feed}
use Rattle.server_sessions.proofs.line_times.lines_in.Given as goal

abbrev pub invariant-loop-end : goal.invariant-loop-end
invariant-loop-end l =
    (goal.iterator-loop-end).can_next l._end-iterator ×
    (goal.iterator-loop-end).is_finite l._end-iterator ×
    (l.lines + length l._end-iterator ≡ length (places (is_byte line_feed) l.bytes))
