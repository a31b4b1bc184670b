use Rattle.std.proofs.Common.{◌≡◌, ◌≤◌, ◌<◌, [], length}
use Rattle.line_protocol.specs.Stream.{HasNoLineFeed, line_limit}
use Rattle.line_runs.proofs.Running.{IsRunning}
use Rattle.line_runs.proofs.run.answer_all.Given as goal

abbrev pub invariant-loop-reads : goal.invariant-loop-reads
invariant-loop-reads g l = record {
  some : 0 < length l.piece;
  empty : l.out.items ≡ [];
  ready : line_limit ≤ l.out.spare;
  waits : HasNoLineFeed l.lines;
  running : IsRunning g.S.LineService.replies l.fn.service l.service l.lines l._reads (g.R.Read.remaining l.fn.reader) (g.R.Read.remaining l.reader) (g.W.Write.contents l.fn.writer) (g.W.Write.contents l.writer);
}
