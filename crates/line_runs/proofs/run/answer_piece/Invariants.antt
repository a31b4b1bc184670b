use Rattle.std.proofs.Common.{◌≤◌, ◌++◌, List, ℕ, length}
use Rattle.line_protocol.specs.Stream.{HasNoLineFeed, line_limit}
use Rattle.line_runs.specs.RunAnswers.{AnswersFront, Gathers}
use Rattle.line_runs.proofs.run.answer_piece.Given as goal

abbrev pub invariant-loop-rest : goal.invariant-loop-rest
invariant-loop-rest g l = record {
  ready : line_limit ≤ l.out.spare;
  waits : HasNoLineFeed l.lines;
  answered : (text : List ℕ) × Gathers (g.W.Write.contents l.fn.writer) (g.W.Write.contents l.writer) l.fn.out.items l.out.items text
      × AnswersFront g.S.LineService.replies l.fn.service l.service (l.fn.lines ++ l.piece) (l.lines ++ l.rest) text;
}

abbrev pub decreases-loop-rest : goal.decreases-loop-rest
decreases-loop-rest g l = length l.rest
