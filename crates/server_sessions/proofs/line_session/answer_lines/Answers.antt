use Rattle.std.proofs.Common.{◌∙◌, arith, rules}
use Rattle.server_sessions.specs.Telling.{BreaksTelling}
use Rattle.line_runs.proofs.Faults.{at_any}
use Rattle.server_sessions.proofs.ToldOf.{breaks_after, breaks_at, breaks_here, told_on, told_flushed}
use Rattle.std.proofs.Common.{[], refl, take}
use Rattle.std.specs.Prelude.{IfSome}
use Rattle.std.proofs.KnownBytes.{Appends-nil}
use Rattle.server_sessions.specs.Answered.{BreaksOffIn}
use Rattle.server_sessions.proofs.InTurn.{breaks_behind_piece, breaks_in_piece, breaks_run, ends_at_end, ends_in_piece, runs_at_first, runs_on}
use Rattle.server_sessions.proofs.line_session.answer_lines.Goals as goal

pub returns-in-Some-clause-keeps : goal.returns-in-Some-clause-keeps
returns-in-Some-clause-keeps g c = record {
  ready = search rules;
  tenant = search rules;
  told =
      told_on c.args.connection.now.terms.options.newest c.args.hub.now.epoch (g.W.Write.contents c.args.writer.now) (g.W.Write.contents c.loop.writer) (g.W.Write.contents c.answer_piece.new.writer) c.args.out.now.items c.loop.out.items c.answer_piece.new.out.items
      c.args.connection.now.seat c.loop.connection.seat c.answer_piece.new.connection.seat c.loop.invariant.told (rw c.loop.invariant.terms at c.in_ok-ending.ensures.keeps.told);
  begun = search rules;
}

pub loop-preserved : goal.loop-preserved
loop-preserved g c =
    let room = c.flush.ensures.room in
    let ready = c.in_ok-ending.ensures.keeps.ready in
    record {
      some = omega (arith, c.read.auto.buf, c.loop.invariant.some);
      ready = omega (arith, room, ready);
      waits = c.in_ok-ending.ensures.waits;
      terms = c.in_ok-ending.ensures.terms ∙ c.loop.invariant.terms;
      tenant = c.in_ok-ending.ensures.keeps.tenant;
      told = told_flushed c.args.connection.now.terms.options.newest c.args.hub.now.epoch (g.W.Write.contents c.args.writer.now) (g.W.Write.contents c.answer_piece.new.writer) (g.W.Write.contents c.flush.new.writer) c.args.out.now.items c.answer_piece.new.out.items c.flush.new.out.items
          c.args.connection.now.seat c.answer_piece.new.connection.seat
          (told_on c.args.connection.now.terms.options.newest c.args.hub.now.epoch (g.W.Write.contents c.args.writer.now) (g.W.Write.contents c.loop.writer) (g.W.Write.contents c.answer_piece.new.writer) c.args.out.now.items c.loop.out.items c.answer_piece.new.out.items
          c.args.connection.now.seat c.loop.connection.seat c.answer_piece.new.connection.seat c.loop.invariant.told (rw c.loop.invariant.terms at c.in_ok-ending.ensures.keeps.told))
          c.in_ok-flush.ensures.written c.flush.ensures.empty;
      answered = runs_on c.args.connection.now.terms.options c.args.hub.now c.args.connection.now.terms.names.now c.args.connection.now.seat c.loop.connection.seat c.answer_piece.new.connection.seat c.loop.lines c.answer_piece.new.lines (take c.in-Ok.taken c.read.new.buf)
          (g.R.Read.remaining c.args.reader.now) (g.R.Read.remaining c.loop.reader) (g.R.Read.remaining c.read.new.self)
          (g.W.Write.contents c.args.writer.now) (g.W.Write.contents c.loop.writer) (g.W.Write.contents c.answer_piece.new.writer) (g.W.Write.contents c.flush.new.writer)
          c.args.out.now.items c.loop.out.items c.answer_piece.new.out.items c.flush.new.out.items
          c.loop.invariant.answered c.in-Ok.ensures.bytes.0 (rw (c.loop.invariant.terms, c.in_default-ending.is) at c.in_ok-ending.ensures.answered) c.in_ok-flush.ensures.written c.flush.ensures.empty;
    }

pub returns-in_err-lines-clause-keeps : goal.returns-in_err-lines-clause-keeps
returns-in_err-lines-clause-keeps g c = record {
  ready = search rules;
  tenant = search rules;
  told = search rules;
  begun =
      let writer = g.W.Write.contents c.args.writer.now in
      let counter = c.args.connection.now.seat in
      at_any c.from_residual.result (λ fault. BreaksTelling c.args.connection.now.terms.options.newest c.args.hub.now.epoch counter counter writer writer c.args.out.now.items) (λ fault. breaks_here c.args.connection.now.terms.options.newest c.args.hub.now.epoch writer c.args.out.now.items counter);
}

pub returns-in_err-buffer-clause-keeps : goal.returns-in_err-buffer-clause-keeps
returns-in_err-buffer-clause-keeps g c = record {
  ready = search rules;
  tenant = search rules;
  told = search rules;
  begun =
      let writer = g.W.Write.contents c.args.writer.now in
      let counter = c.args.connection.now.seat in
      at_any c.from_residual-in_err-buffer.result (λ fault. BreaksTelling c.args.connection.now.terms.options.newest c.args.hub.now.epoch counter counter writer writer c.args.out.now.items) (λ fault. breaks_here c.args.connection.now.terms.options.newest c.args.hub.now.epoch writer c.args.out.now.items counter);
}

pub returns-in_default-clause-keeps : goal.returns-in_default-clause-keeps
returns-in_default-clause-keeps g c = record {
  ready = search rules;
  tenant = search rules;
  told = search rules;
  begun =
      let first = c.args.connection.now.seat in
      let last = c.loop.connection.seat in
      let new = g.W.Write.contents c.loop.writer in
      breaks_after c.args.connection.now.terms.options.newest c.args.hub.now.epoch (g.W.Write.contents c.args.writer.now) new new c.args.out.now.items c.loop.out.items first last last c.loop.invariant.told (breaks_here c.args.connection.now.terms.options.newest c.args.hub.now.epoch new c.loop.out.items last);
}

pub returns-in_err-ending-clause-keeps : goal.returns-in_err-ending-clause-keeps
returns-in_err-ending-clause-keeps g c = record {
  ready = search rules;
  tenant = search rules;
  told = search rules;
  begun =
      let first = c.args.connection.now.seat in
      let last = c.answer_piece.new.connection.seat in
      let old = g.W.Write.contents c.args.writer.now in
      let new = g.W.Write.contents c.answer_piece.new.writer in
      at_any c.from_residual-in_err-ending.result (λ fault. BreaksTelling c.args.connection.now.terms.options.newest c.args.hub.now.epoch first last old new c.args.out.now.items)
      (λ fault. breaks_after c.args.connection.now.terms.options.newest c.args.hub.now.epoch old (g.W.Write.contents c.loop.writer) new c.args.out.now.items c.loop.out.items first c.loop.connection.seat last c.loop.invariant.told (rw c.loop.invariant.terms at c.in_err-ending.ensures.keeps.begun));
}

pub returns-in_err-flush-clause-keeps : goal.returns-in_err-flush-clause-keeps
returns-in_err-flush-clause-keeps g c = record {
  ready = search rules;
  tenant = search rules;
  told = search rules;
  begun =
      let first = c.args.connection.now.seat in
      let last = c.answer_piece.new.connection.seat in
      let old = g.W.Write.contents c.args.writer.now in
      let mid = g.W.Write.contents c.answer_piece.new.writer in
      let new = g.W.Write.contents c.flush.new.writer in
      let gathered = c.answer_piece.new.out.items in
      let begun = c.in_err-flush.ensures.begun in
      at_any c.from_residual-in_err-flush.result (λ fault. BreaksTelling c.args.connection.now.terms.options.newest c.args.hub.now.epoch first last old new c.args.out.now.items)
      (λ fault. breaks_after c.args.connection.now.terms.options.newest c.args.hub.now.epoch old mid new c.args.out.now.items gathered first last last
      (told_on c.args.connection.now.terms.options.newest c.args.hub.now.epoch old (g.W.Write.contents c.loop.writer) mid c.args.out.now.items c.loop.out.items gathered first c.loop.connection.seat last c.loop.invariant.told (rw c.loop.invariant.terms at c.in_ok-ending.ensures.keeps.told))
      (breaks_at c.args.connection.now.terms.options.newest c.args.hub.now.epoch mid new gathered last begun.0 begun.1));
}

pub returns-clause-keeps : goal.returns-clause-keeps
returns-clause-keeps g c = record {
  ready = search rules;
  tenant = search rules;
  told = search rules;
  begun =
      let first = c.args.connection.now.seat in
      let last = c.loop.connection.seat in
      let new = g.W.Write.contents c.loop.writer in
      breaks_after c.args.connection.now.terms.options.newest c.args.hub.now.epoch (g.W.Write.contents c.args.writer.now) new new c.args.out.now.items c.loop.out.items first last last c.loop.invariant.told (breaks_here c.args.connection.now.terms.options.newest c.args.hub.now.epoch new c.loop.out.items last);
}

pub returns-in-Some-clause-answered : goal.returns-in-Some-clause-answered
returns-in-Some-clause-answered g c =
    ends_in_piece c.args.connection.now.terms.options c.args.hub.now c.args.connection.now.terms.names.now c.in-Some.ending c.args.connection.now.seat c.loop.connection.seat c.answer_piece.new.connection.seat c.loop.lines c.answer_piece.new.lines (take c.in-Ok.taken c.read.new.buf)
    (g.R.Read.remaining c.args.reader.now) (g.R.Read.remaining c.loop.reader) (g.R.Read.remaining c.read.new.self)
    (g.W.Write.contents c.args.writer.now) (g.W.Write.contents c.loop.writer) (g.W.Write.contents c.answer_piece.new.writer) c.args.out.now.items c.loop.out.items c.answer_piece.new.out.items
    c.loop.invariant.answered c.in-Ok.ensures.bytes.0 (rw (c.loop.invariant.terms, c.in-Some.is) at c.in_ok-ending.ensures.answered)

pub returns-then-taken-eq0-clause-answered : goal.returns-then-taken-eq0-clause-answered
returns-then-taken-eq0-clause-answered g c =
    let zero = c.if-taken-eq0.true in
    ends_at_end c.args.connection.now.terms.options c.args.hub.now c.args.connection.now.terms.names.now c.ending_of.result c.args.connection.now.seat c.loop.connection.seat c.loop.lines
    (g.R.Read.remaining c.args.reader.now) (g.R.Read.remaining c.loop.reader) (g.R.Read.remaining c.read.new.self)
    (g.W.Write.contents c.args.writer.now) (g.W.Write.contents c.loop.writer) c.args.out.now.items c.loop.out.items
    c.loop.invariant.answered (rw zero at c.in-Ok.ensures.bytes.0) (c.in-Ok.ensures.bytes.1 zero (omega (arith, c.read.auto.buf, c.loop.invariant.some))) c.loop.invariant.waits c.ending_of.ensures

pub returns-in_err-lines-clause-broke : goal.returns-in_err-lines-clause-broke
returns-in_err-lines-clause-broke g c =
    let options = c.args.connection.now.terms.options in
    let hub = c.args.hub.now in
    let names = c.args.connection.now.terms.names.now in
    let seat = c.args.connection.now.seat in
    let input = g.R.Read.remaining c.args.reader.now in
    let writer = g.W.Write.contents c.args.writer.now in
    let out = c.args.out.now.items in
    at_any c.from_residual.result (λ fault. IfSome input (λ stream. BreaksOffIn options hub names seat seat stream writer writer out))
    (λ fault. breaks_run options hub names seat seat [] input input writer writer writer out out 0 (runs_at_first options hub names seat input writer out [] refl) (Appends-nil writer))

pub returns-in_err-buffer-clause-broke : goal.returns-in_err-buffer-clause-broke
returns-in_err-buffer-clause-broke g c =
    let options = c.args.connection.now.terms.options in
    let hub = c.args.hub.now in
    let names = c.args.connection.now.terms.names.now in
    let seat = c.args.connection.now.seat in
    let input = g.R.Read.remaining c.args.reader.now in
    let writer = g.W.Write.contents c.args.writer.now in
    let out = c.args.out.now.items in
    at_any c.from_residual-in_err-buffer.result (λ fault. IfSome input (λ stream. BreaksOffIn options hub names seat seat stream writer writer out))
    (λ fault. breaks_run options hub names seat seat [] input input writer writer writer out out 0 (runs_at_first options hub names seat input writer out [] refl) (Appends-nil writer))

pub returns-in_default-clause-broke : goal.returns-in_default-clause-broke
returns-in_default-clause-broke g c =
    let new = g.W.Write.contents c.loop.writer in
    breaks_run c.args.connection.now.terms.options c.args.hub.now c.args.connection.now.terms.names.now c.args.connection.now.seat c.loop.connection.seat c.loop.lines (g.R.Read.remaining c.args.reader.now) (g.R.Read.remaining c.loop.reader)
    (g.W.Write.contents c.args.writer.now) new new c.args.out.now.items c.loop.out.items 0 c.loop.invariant.answered (Appends-nil new)

pub returns-in_err-ending-clause-broke : goal.returns-in_err-ending-clause-broke
returns-in_err-ending-clause-broke g c =
    let options = c.args.connection.now.terms.options in
    let hub = c.args.hub.now in
    let names = c.args.connection.now.terms.names.now in
    let first = c.args.connection.now.seat in
    let last = c.answer_piece.new.connection.seat in
    let input = g.R.Read.remaining c.args.reader.now in
    let old = g.W.Write.contents c.args.writer.now in
    let new = g.W.Write.contents c.answer_piece.new.writer in
    at_any c.from_residual-in_err-ending.result (λ fault. IfSome input (λ stream. BreaksOffIn options hub names first last stream old new c.args.out.now.items))
    (λ fault. breaks_in_piece options hub names first c.loop.connection.seat last c.loop.lines (take c.in-Ok.taken c.read.new.buf) input (g.R.Read.remaining c.loop.reader) (g.R.Read.remaining c.read.new.self)
    old (g.W.Write.contents c.loop.writer) new c.args.out.now.items c.loop.out.items c.loop.invariant.answered c.in-Ok.ensures.bytes.0 (rw c.loop.invariant.terms at c.in_err-ending.ensures.broke))

pub returns-in_err-flush-clause-broke : goal.returns-in_err-flush-clause-broke
returns-in_err-flush-clause-broke g c =
    let options = c.args.connection.now.terms.options in
    let hub = c.args.hub.now in
    let names = c.args.connection.now.terms.names.now in
    let first = c.args.connection.now.seat in
    let last = c.answer_piece.new.connection.seat in
    let input = g.R.Read.remaining c.args.reader.now in
    let old = g.W.Write.contents c.args.writer.now in
    let new = g.W.Write.contents c.flush.new.writer in
    let begun = c.in_err-flush.ensures.begun in
    at_any c.from_residual-in_err-flush.result (λ fault. IfSome input (λ stream. BreaksOffIn options hub names first last stream old new c.args.out.now.items))
    (λ fault. breaks_behind_piece options hub names first c.loop.connection.seat last c.loop.lines c.answer_piece.new.lines (take c.in-Ok.taken c.read.new.buf) input (g.R.Read.remaining c.loop.reader) (g.R.Read.remaining c.read.new.self)
    old (g.W.Write.contents c.loop.writer) (g.W.Write.contents c.answer_piece.new.writer) new c.args.out.now.items c.loop.out.items c.answer_piece.new.out.items begun.0
    c.loop.invariant.answered c.in-Ok.ensures.bytes.0 (rw (c.loop.invariant.terms, c.in_default-ending.is) at c.in_ok-ending.ensures.answered) begun.1)

pub returns-clause-broke : goal.returns-clause-broke
returns-clause-broke g c =
    let new = g.W.Write.contents c.loop.writer in
    breaks_run c.args.connection.now.terms.options c.args.hub.now c.args.connection.now.terms.names.now c.args.connection.now.seat c.loop.connection.seat c.loop.lines (g.R.Read.remaining c.args.reader.now) (g.R.Read.remaining c.loop.reader)
    (g.W.Write.contents c.args.writer.now) new new c.args.out.now.items c.loop.out.items 0 c.loop.invariant.answered (Appends-nil new)
