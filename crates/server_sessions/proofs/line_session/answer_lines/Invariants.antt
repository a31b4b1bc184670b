use Rattle.std.proofs.Common.{◌≡◌, ◌≤◌, ◌<◌, List, ℕ, length}
use Rattle.stamps.specs.Limits.{line_limit}
use Rattle.line_protocol.specs.Stream.{HasNoLineFeed}
use Rattle.line_runs.specs.RunAnswers.{Gathers}
use Rattle.server_sessions.specs.Telling.{IsSeated, Tells}
use Rattle.server_sessions.proofs.InTurn.{RunsSo}
use Rattle.server_sessions.proofs.line_session.answer_lines.Given as goal

abbrev pub invariant-loop : goal.invariant-loop
invariant-loop g l = record {
  some : 0 < length l.piece;
  ready : line_limit ≤ l.out.spare;
  waits : HasNoLineFeed l.lines;
  terms : l.connection.terms ≡ l.fn.connection.terms;
  tenant : IsSeated l.connection.seat l.connection.terms.names.now;
  told : (text : List ℕ) × Gathers (g.W.Write.contents l.fn.writer) (g.W.Write.contents l.writer) l.fn.out.items l.out.items text
      × Tells l.fn.connection.terms.options.newest l.fn.hub.epoch l.fn.connection.seat l.connection.seat text;
  answered : RunsSo l.fn.connection.terms.options l.fn.hub l.fn.connection.terms.names.now l.fn.connection.seat l.connection.seat l.lines (g.R.Read.remaining l.fn.reader) (g.R.Read.remaining l.reader)
      (g.W.Write.contents l.fn.writer) (g.W.Write.contents l.writer) l.fn.out.items l.out.items;
}
