use Rattle.std.proofs.Common.{◌≡◌, ◌<◌, ◌++◌, [], ℕ, length, take, arith, rules, subst}
use Rattle.std.specs.Io.KnownBytes.{Appends, Consumes}
use Rattle.std.proofs.KnownBytes.{Keeps-refl}
use Rattle.line_runs.specs.declared.fault.RunFault.TheVariants.{Write, OutOfMemory}
use Rattle.line_runs.specs.RunAnswers.{AnswersFront, FailsSo, Gathers, LeavesOff, StopsAt, end_of, text_at_end}
use Rattle.line_runs.proofs.Faults.{at_any, at_both, at_fault}
use Rattle.line_runs.proofs.Fronts.{begins_behind_gathered, begins_behind_text}
use Rattle.line_runs.proofs.Leaving.{begins_after_fault, fails_after_fault, stops_after_fault}
use Rattle.line_runs.proofs.Endings.{IfOk_both}
use Rattle.line_runs.proofs.Gathering.{Gathers-end, Gathers-flush}
use Rattle.line_runs.proofs.Running.{IsEnded, IsRunning-begins, answered_so_far, begins_at_end, begins_in_front, begins_in_piece, ends_at_end, is_as_long, runs_on, stops_in_piece}
use Rattle.line_runs.proofs.run.answer_all.Goals as goal

pub loop-reads-init : goal.loop-reads-init
loop-reads-init g c = record {
  some = c.requires.piece;
  empty = c.requires.empty;
  ready = c.requires.ready;
  waits = search rules;
  running = rw c.requires.lines (IsRunning-begins g.S.LineService.replies c.args.service.now (g.R.Read.remaining c.args.reader.now) (g.W.Write.contents c.args.writer.now));
}

pub loop-reads-preserved : goal.loop-reads-preserved
loop-reads-preserved g c =
    let step = c.in-Ok-true.ensures.answered in
    let gathered : Gathers (g.W.Write.contents c.loop-reads.writer) (g.W.Write.contents c.answer_piece.new.writer) [] c.answer_piece.new.out.items step.0 = rw c.loop-reads.invariant.empty at step.1 in
    let piece = take c.in-Ok.taken c.read.new.buf in
    let more : 0 < length piece = omega (arith, c.in-Ok.ensures.bound.1, c.if-taken-eq0.false) in
    let front : AnswersFront g.S.LineService.replies c.loop-reads.service c.answer_piece.new.service (c.loop-reads.lines ++ piece) c.answer_piece.new.lines step.0 = rw c.in-Ok-true.field-0-test at step.2 in
    record {
      some = omega (arith, c.read.auto.buf, c.loop-reads.invariant.some);
      empty = c.flush.ensures.empty;
      ready = search rules;
      waits = c.in-Ok-true.ensures.waits;
      running = runs_on g.S.LineService.replies c.args.service.now c.loop-reads.service c.answer_piece.new.service c.loop-reads.lines c.answer_piece.new.lines piece c.loop-reads._reads
          _ _ _ _ _ _ step.0 c.loop-reads.invariant.running c.in-Ok.ensures.bytes.0 more
          (Gathers-flush _ _ _ c.answer_piece.new.out.items step.0 gathered c.in_ok-flush-in-Ok-true.ensures.written) front;
    }

pub returns-then-taken-eq0-clause-answered : goal.returns-then-taken-eq0-clause-answered
returns-then-taken-eq0-clause-answered g c =
    let zero = c.if-taken-eq0.true in
    let none_taken : Consumes (g.R.Read.remaining c.loop-reads.reader) (g.R.Read.remaining c.read.new.self) [] = rw zero at c.in-Ok.ensures.bytes.0 in
    IfOk_both c.finish.result (λ end. end_of c.loop-reads.lines ≡ end) (λ end. Appends (g.W.Write.contents c.loop-reads.writer) (g.W.Write.contents c.finish.new.writer) (c.loop-reads.out.items ++ text_at_end end))
    (λ end. IsEnded g.S.LineService.replies c.args.service.now (g.R.Read.remaining c.args.reader.now) (g.W.Write.contents c.args.writer.now) (g.W.Write.contents c.finish.new.writer) end)
    c.finish.ensures.end c.finish.ensures.written
    (λ end is adds. ends_at_end g.S.LineService.replies c.args.service.now c.loop-reads.service g.S.LineService.replies_none c.loop-reads.lines c.loop-reads._reads _ _ _ _ _ _ end
    c.loop-reads.invariant.running none_taken (c.in-Ok.ensures.bytes.1 zero (omega (arith, c.read.auto.buf, c.loop-reads.invariant.some))) c.loop-reads.invariant.waits is (rw c.loop-reads.invariant.empty at adds))

pub returns-in-Ok-false-clause-answered : goal.returns-in-Ok-false-clause-answered
returns-in-Ok-false-clause-answered g c =
    let step = c.in-Ok-false.ensures.answered in
    let gathered : Gathers (g.W.Write.contents c.loop-reads.writer) (g.W.Write.contents c.answer_piece.new.writer) [] c.answer_piece.new.out.items step.0 = rw c.loop-reads.invariant.empty at step.1 in
    IfOk_both c.finish-in-Ok-false.result (λ end. end_of c.answer_piece.new.lines ≡ end) (λ end. Appends (g.W.Write.contents c.answer_piece.new.writer) (g.W.Write.contents c.finish-in-Ok-false.new.writer) (c.answer_piece.new.out.items ++ text_at_end end))
    (λ end. IsEnded g.S.LineService.replies c.args.service.now (g.R.Read.remaining c.args.reader.now) (g.W.Write.contents c.args.writer.now) (g.W.Write.contents c.finish-in-Ok-false.new.writer) end)
    c.finish-in-Ok-false.ensures.end c.finish-in-Ok-false.ensures.written
    (λ end is adds. stops_in_piece g.S.LineService.replies c.args.service.now c.loop-reads.service c.answer_piece.new.service g.S.LineService.replies_none c.loop-reads.lines c.answer_piece.new.lines (take c.in-Ok.taken c.read.new.buf) c.loop-reads._reads
    _ _ _ _ _ _ step.0 end c.loop-reads.invariant.running c.in-Ok.ensures.bytes.0 (rw c.in-Ok-false.field-0-test at step.2) c.in-Ok-false.ensures.waits is (Gathers-end _ _ _ c.answer_piece.new.out.items step.0 (text_at_end end) gathered adds))

pub returns-in_default-clause-failed : goal.returns-in_default-clause-failed
returns-in_default-clause-failed g c =
    answered_so_far g.S.LineService.replies c.args.service.now c.loop-reads.service g.S.LineService.replies_none c.loop-reads.lines c.loop-reads._reads _ _ _ _ _ c.loop-reads.invariant.running c.in_default.ensures.bytes c.loop-reads.invariant.waits

pub returns-clause-failed : goal.returns-clause-failed
returns-clause-failed g c = (
  answered_so_far g.S.LineService.replies c.args.service.now c.loop-reads.service g.S.LineService.replies_none c.loop-reads.lines c.loop-reads._reads _ _ _ _ _ c.loop-reads.invariant.running (Keeps-refl (g.R.Read.remaining c.loop-reads.reader)) c.loop-reads.invariant.waits,
  is_as_long g.S.LineService.replies c.args.service.now c.loop-reads.service c.loop-reads.lines c.loop-reads._reads _ _ _ _ c.loop-reads.invariant.running (omega arith),
)

pub returns-then-taken-eq0-clause-failed : goal.returns-then-taken-eq0-clause-failed
returns-then-taken-eq0-clause-failed g c =
    let zero = c.if-taken-eq0.true in
    let none_taken : Consumes (g.R.Read.remaining c.loop-reads.reader) (g.R.Read.remaining c.read.new.self) [] = rw zero at c.in-Ok.ensures.bytes.0 in
    at_both c.finish.result (λ fault. fault ≡ Write)
    (λ fault. (n : ℕ) × Appends (g.W.Write.contents c.loop-reads.writer) (g.W.Write.contents c.finish.new.writer) (take n (c.loop-reads.out.items ++ text_at_end (end_of c.loop-reads.lines))))
    (FailsSo (g.S.LineService.replies c.args.service.now) (g.R.Read.remaining c.args.reader.now) (g.R.Read.remaining c.read.new.self) (g.W.Write.contents c.args.writer.now) (g.W.Write.contents c.finish.new.writer))
    c.finish.ensures.error c.finish.ensures.begun
    (λ fault is begun. rw is (begins_at_end g.S.LineService.replies c.args.service.now c.loop-reads.service g.S.LineService.replies_none c.loop-reads.lines c.loop-reads._reads begun.0 _ _ _ _ _ _
    c.loop-reads.invariant.running none_taken (c.in-Ok.ensures.bytes.1 zero (omega (arith, c.read.auto.buf, c.loop-reads.invariant.some))) c.loop-reads.invariant.waits (rw c.loop-reads.invariant.empty at begun.1)))

pub returns-in_err-flush-in-Ok-true-clause-failed : goal.returns-in_err-flush-in-Ok-true-clause-failed
returns-in_err-flush-in-Ok-true-clause-failed g c =
    let step = c.in-Ok-true.ensures.answered in
    let old = g.W.Write.contents c.loop-reads.writer in
    let mid = g.W.Write.contents c.answer_piece.new.writer in
    let gathered : Gathers old mid [] c.answer_piece.new.out.items step.0 = rw c.loop-reads.invariant.empty at step.1 in
    let piece = take c.in-Ok.taken c.read.new.buf in
    let front : AnswersFront g.S.LineService.replies c.loop-reads.service c.answer_piece.new.service (c.loop-reads.lines ++ piece) c.answer_piece.new.lines step.0 = rw c.in-Ok-true.field-0-test at step.2 in
    let begun = c.in_err-flush-in-Ok-true.ensures.begun in
    at_fault c.from_residual.result c.in_err-flush-in-Ok-true.field-0.0
    (FailsSo (g.S.LineService.replies c.args.service.now) (g.R.Read.remaining c.args.reader.now) (g.R.Read.remaining c.read.new.self) (g.W.Write.contents c.args.writer.now) (g.W.Write.contents c.flush.new.writer))
    c.from_residual.ensures.1
    (rw c.in_err-flush-in-Ok-true.ensures.error (begins_in_front g.S.LineService.replies c.args.service.now c.loop-reads.service c.answer_piece.new.service g.S.LineService.replies_none
    c.loop-reads.lines piece c.answer_piece.new.lines c.loop-reads._reads _ _ _ _ _ _ _ step.0 c.loop-reads.invariant.running c.in-Ok.ensures.bytes.0
    (begins_behind_text old mid _ c.answer_piece.new.out.items step.0 begun.0 gathered begun.1) front))

pub returns-in-Ok-false-clause-failed : goal.returns-in-Ok-false-clause-failed
returns-in-Ok-false-clause-failed g c =
    let step = c.in-Ok-false.ensures.answered in
    let old = g.W.Write.contents c.loop-reads.writer in
    let mid = g.W.Write.contents c.answer_piece.new.writer in
    let new = g.W.Write.contents c.finish-in-Ok-false.new.writer in
    let gathered : Gathers old mid [] c.answer_piece.new.out.items step.0 = rw c.loop-reads.invariant.empty at step.1 in
    let tail = text_at_end (end_of c.answer_piece.new.lines) in
    at_both c.finish-in-Ok-false.result (λ fault. fault ≡ Write)
    (λ fault. (n : ℕ) × Appends mid new (take n (c.answer_piece.new.out.items ++ tail)))
    (FailsSo (g.S.LineService.replies c.args.service.now) (g.R.Read.remaining c.args.reader.now) (g.R.Read.remaining c.read.new.self) (g.W.Write.contents c.args.writer.now) new)
    c.finish-in-Ok-false.ensures.error c.finish-in-Ok-false.ensures.begun
    (λ fault is begun. rw is (begins_in_piece g.S.LineService.replies c.args.service.now c.loop-reads.service c.answer_piece.new.service g.S.LineService.replies_none c.loop-reads.lines c.answer_piece.new.lines
    (take c.in-Ok.taken c.read.new.buf) c.loop-reads._reads _ _ _ _ _ _ _ step.0 c.loop-reads.invariant.running c.in-Ok.ensures.bytes.0 (rw c.in-Ok-false.field-0-test at step.2) c.in-Ok-false.ensures.waits
    (begins_behind_gathered old mid new [] c.answer_piece.new.out.items step.0 tail begun.0 gathered begun.1)))

pub returns-in_err-flush-in-Err-clause-failed : goal.returns-in_err-flush-in-Err-clause-failed
returns-in_err-flush-in-Err-clause-failed g c =
    let old = g.W.Write.contents c.loop-reads.writer in
    let mid = g.W.Write.contents c.answer_piece.new.writer in
    let piece = take c.in-Ok.taken c.read.new.buf in
    let begun = c.in_err-flush-in-Err.ensures.begun in
    let leaves : LeavesOff g.S.LineService.replies c.loop-reads.service c.answer_piece.new.service (c.loop-reads.lines ++ piece) old mid [] c.answer_piece.new.out.items c.in-Err.fault =
    rw c.loop-reads.invariant.empty at c.in-Err.ensures.fault in
    at_fault c.from_residual-in_err-flush-in-Err.result c.in_err-flush-in-Err.field-0.0
    (FailsSo (g.S.LineService.replies c.args.service.now) (g.R.Read.remaining c.args.reader.now) (g.R.Read.remaining c.read.new.self) (g.W.Write.contents c.args.writer.now) (g.W.Write.contents c.flush-in-Err.new.writer))
    c.from_residual-in_err-flush-in-Err.ensures.1
    (rw c.in_err-flush-in-Err.ensures.error (begins_after_fault g.S.LineService.replies c.args.service.now c.loop-reads.service c.answer_piece.new.service g.S.LineService.replies_none
    c.loop-reads.lines piece c.loop-reads._reads begun.0 _ _ _ _ old mid _ c.answer_piece.new.out.items c.in-Err.fault c.loop-reads.invariant.running c.in-Ok.ensures.bytes.0 leaves begun.1))

pub returns-in-Err-clause-failed : goal.returns-in-Err-clause-failed
returns-in-Err-clause-failed g c =
    let old = g.W.Write.contents c.loop-reads.writer in
    let mid = g.W.Write.contents c.answer_piece.new.writer in
    let piece = take c.in-Ok.taken c.read.new.buf in
    let leaves : LeavesOff g.S.LineService.replies c.loop-reads.service c.answer_piece.new.service (c.loop-reads.lines ++ piece) old mid [] c.answer_piece.new.out.items c.in-Err.fault =
    rw c.loop-reads.invariant.empty at c.in-Err.ensures.fault in
    fails_after_fault g.S.LineService.replies c.args.service.now c.loop-reads.service c.answer_piece.new.service g.S.LineService.replies_none c.loop-reads.lines piece c.loop-reads._reads _ _ _ _ old mid _
    c.answer_piece.new.out.items c.in-Err.fault c.loop-reads.invariant.running c.in-Ok.ensures.bytes.0 leaves c.in_ok-flush-in-Err.ensures.written

pub returns-in-Err-clause-memory : goal.returns-in-Err-clause-memory
returns-in-Err-clause-memory g c same =
    let old = g.W.Write.contents c.loop-reads.writer in
    let mid = g.W.Write.contents c.answer_piece.new.writer in
    let piece = take c.in-Ok.taken c.read.new.buf in
    let leaves : LeavesOff g.S.LineService.replies c.loop-reads.service c.answer_piece.new.service (c.loop-reads.lines ++ piece) old mid [] c.answer_piece.new.out.items c.in-Err.fault =
    rw c.loop-reads.invariant.empty at c.in-Err.ensures.fault in
    stops_after_fault g.S.LineService.replies c.args.service.now c.loop-reads.service c.answer_piece.new.service c.loop-reads.lines piece c.loop-reads._reads _ _ _ _ old mid _
    c.answer_piece.new.out.items c.loop-reads.invariant.running c.in-Ok.ensures.bytes.0
    (subst (LeavesOff g.S.LineService.replies c.loop-reads.service c.answer_piece.new.service (c.loop-reads.lines ++ piece) old mid [] c.answer_piece.new.out.items) same leaves) c.in_ok-flush-in-Err.ensures.written
