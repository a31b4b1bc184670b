use Rattle.std.proofs.Common.{None, [], refl, rules}
use Rattle.std.proofs.KnownBytes.{Appends-nil}
use Rattle.server_sessions.proofs.ToldOf.{breaks_here, ended_broken, ended_told, given_broken, given_gathered, named, session_begun, session_broken, session_written}
use Rattle.server_sessions.proofs.InTurn.{breaks_run, runs_at_first, session_answered, session_breaks, session_breaks_last}
use Rattle.server_sessions.proofs.line_session.run_session_as.Goals as goal

pub returns-in-Ok-ended-clause-run : goal.returns-in-Ok-ended-clause-run
returns-in-Ok-ended-clause-run g c =
    let end = ended_told c.args.options.newest c.args.hub.now.epoch c.answer_lines-ended.new.connection.seat _ (g.W.Write.contents c.args.writer.now) (g.W.Write.contents c.answer_lines-ended.new.writer) c.answer_lines-ended.new.out.items
    (rw c.in-Ok.ensures.items at c.in-Ok-ended.ensures.keeps.told) c.end_seat-left.ensures.0 in record {
      written =
          session_written c.args.options.newest c.args.hub.now.epoch c.finish-ended.result c.answer_lines-ended.new.connection.seat _ (g.W.Write.contents c.args.writer.now) (g.W.Write.contents c.answer_lines-ended.new.writer) (g.W.Write.contents c.finish-ended.new.writer)
          c.answer_lines-ended.new.out.items (rw c.in-Ok.ensures.items at c.in-Ok-ended.ensures.keeps.told) c.finish-ended.ensures.written
          end;
      begun =
          session_broken c.args.options.newest c.args.hub.now.epoch c.finish-ended.result c.answer_lines-ended.new.connection.seat _ (g.W.Write.contents c.args.writer.now) (g.W.Write.contents c.answer_lines-ended.new.writer) (g.W.Write.contents c.finish-ended.new.writer)
          c.answer_lines-ended.new.out.items (rw c.in-Ok.ensures.items at c.in-Ok-ended.ensures.keeps.told) c.finish-ended.ensures.begun
          end;
      tenant = named _ c.answer_lines-ended.new.connection.seat c.args.names.now end (rw c.in-Ok-ended.ensures.terms at c.in-Ok-ended.ensures.keeps.tenant);
      given =
          given_gathered c.args.options.newest c.args.hub.now.epoch c.answer_lines-ended.new.connection.seat _ (g.W.Write.contents c.args.writer.now) (g.W.Write.contents c.answer_lines-ended.new.writer) c.answer_lines-ended.new.out.items
          (rw c.in-Ok.ensures.items at c.in-Ok-ended.ensures.keeps.told) end;
      answered =
          session_answered c.args.options c.args.hub.now c.args.names.now c.finish-ended.result c.in-Ok-ended.ending c.answer_lines-ended.new.connection.seat _ (g.R.Read.remaining c.args.reader.now)
          (g.W.Write.contents c.args.writer.now) (g.W.Write.contents c.answer_lines-ended.new.writer) (g.W.Write.contents c.finish-ended.new.writer) c.answer_lines-ended.new.out.items
          (rw c.in-Ok.ensures.items at c.in-Ok-ended.ensures.answered) c.finish-ended.ensures.last end;
      broke =
          session_breaks_last c.args.options c.args.hub.now c.args.names.now c.finish-ended.result c.in-Ok-ended.ending c.answer_lines-ended.new.connection.seat _ (g.R.Read.remaining c.args.reader.now)
          (g.W.Write.contents c.args.writer.now) (g.W.Write.contents c.answer_lines-ended.new.writer) (g.W.Write.contents c.finish-ended.new.writer) c.answer_lines-ended.new.out.items
          (rw c.in-Ok.ensures.items at c.in-Ok-ended.ensures.answered) c.finish-ended.ensures.begun end;
    }

pub returns-in_default-clause-run : goal.returns-in_default-clause-run
returns-in_default-clause-run g c = record {
  written = search rules;
  begun =
      session_begun c.args.options.newest c.args.hub.now.epoch None None (g.W.Write.contents c.args.writer.now) (g.W.Write.contents c.args.writer.now)
      (breaks_here c.args.options.newest c.args.hub.now.epoch (g.W.Write.contents c.args.writer.now) [] None) refl;
  tenant = search rules;
  given = search rules;
  answered = search rules;
  broke =
      let hub = c.args.hub.now in
      let input = g.R.Read.remaining c.args.reader.now in
      let writer = g.W.Write.contents c.args.writer.now in
      session_breaks c.args.options hub c.args.names.now None None input writer writer
      (breaks_run c.args.options hub c.args.names.now None None [] input input writer writer writer [] [] 0 (runs_at_first c.args.options hub c.args.names.now None input writer [] [] refl) (Appends-nil writer)) refl;
}

pub returns-clause-run : goal.returns-clause-run
returns-clause-run g c =
    let end = ended_broken c.args.options.newest c.args.hub.now.epoch c.answer_lines-ended.new.connection.seat _ (g.W.Write.contents c.args.writer.now) (g.W.Write.contents c.answer_lines-ended.new.writer)
    (rw c.in-Ok.ensures.items at c.in-Err.ensures.keeps.begun) c.end_seat-left.ensures.0 in record {
      written = search rules;
      begun =
          session_begun c.args.options.newest c.args.hub.now.epoch c.answer_lines-ended.new.connection.seat _ (g.W.Write.contents c.args.writer.now) (g.W.Write.contents c.answer_lines-ended.new.writer)
          (rw c.in-Ok.ensures.items at c.in-Err.ensures.keeps.begun) end;
      tenant = named _ c.answer_lines-ended.new.connection.seat c.args.names.now end (rw c.in-Err.ensures.terms at c.in-Err.ensures.keeps.tenant);
      given =
          given_broken c.args.options.newest c.args.hub.now.epoch c.answer_lines-ended.new.connection.seat _ (g.W.Write.contents c.args.writer.now) (g.W.Write.contents c.answer_lines-ended.new.writer)
          (rw c.in-Ok.ensures.items at c.in-Err.ensures.keeps.begun) end;
      answered = search rules;
      broke =
          session_breaks c.args.options c.args.hub.now c.args.names.now c.answer_lines-ended.new.connection.seat _ (g.R.Read.remaining c.args.reader.now) (g.W.Write.contents c.args.writer.now) (g.W.Write.contents c.answer_lines-ended.new.writer)
          (rw c.in-Ok.ensures.items at c.in-Err.ensures.broke) end;
    }
