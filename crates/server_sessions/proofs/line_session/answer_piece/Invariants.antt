use Rattle.std.proofs.Common.{◌≡◌, ◌≤◌, ◌++◌, List, ℕ, length}
use Rattle.stamps.specs.Limits.{line_limit}
use Rattle.line_protocol.specs.Stream.{HasNoLineFeed}
use Rattle.line_runs.specs.RunAnswers.{Gathers}
use Rattle.server_sessions.specs.Telling.{IsSeated, Tells}
use Rattle.server_sessions.proofs.InTurn.{SoFar}
use Rattle.server_sessions.proofs.line_session.answer_piece.Given as goal

abbrev pub invariant-loop-rest : goal.invariant-loop-rest
invariant-loop-rest g l = record {
  ready : line_limit ≤ l.out.spare;
  waits : HasNoLineFeed l.lines;
  terms : l.connection.terms ≡ l.fn.connection.terms;
  tenant : IsSeated l.connection.seat l.connection.terms.names.now;
  told : (text : List ℕ) × Gathers (g.W.Write.contents l.fn.writer) (g.W.Write.contents l.writer) l.fn.out.items l.out.items text
      × Tells l.fn.connection.terms.options.newest l.fn.hub.epoch l.fn.connection.seat l.connection.seat text;
  answered : SoFar l.fn.connection.terms.options l.fn.hub l.fn.connection.terms.names.now l.fn.connection.seat l.connection.seat (l.fn.lines ++ l.piece) (l.lines ++ l.rest)
      (g.W.Write.contents l.fn.writer) (g.W.Write.contents l.writer) l.fn.out.items l.out.items;
}

abbrev pub decreases-loop-rest : goal.decreases-loop-rest
decreases-loop-rest g l = length l.rest
