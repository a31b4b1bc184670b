use Rattle.std.proofs.Common.{◌≡◌, ◌++◌, Some, None, [], take, sym, ◌∙◌}
use Rattle.std.proofs.lemmas.List.{append-nil}
use Rattle.std.specs.Io.KnownBytes.{Appends}
use Rattle.line_protocol.specs.Held.{HandsOut}
use Rattle.line_runs.specs.declared.fault.RunFault.TheVariants.{Write, OutOfMemory}
use Rattle.line_runs.specs.RunAnswers.{AnswersFront, LeavesOff}
use Rattle.line_runs.proofs.Faults.{at_fault}
use Rattle.line_runs.proofs.Fronts.{AnswersFront-refl, AnswersFront-line, AnswersFront-stays}
use Rattle.line_runs.proofs.Gathering.{Gathers-none, Gathers-text, Gathers-written}
use Rattle.line_runs.proofs.run.answer_waiting.Goals as goal

pub returns-in_default-clause-answered : goal.returns-in_default-clause-answered
returns-in_default-clause-answered g c =
    let kept : HandsOut c.args.lines.now None c.next_line.follows.lender-at-none = rw c.in_default.is at c.next_line.follows.holds-at-none in
    ([], Gathers-none (g.W.Write.contents c.args.writer.now) c.args.out.now.items, rw kept (AnswersFront-refl g.S.LineService.replies c.args.service.now c.args.lines.now))

pub returns-in_ok-flush-clause-answered : goal.returns-in_ok-flush-clause-answered
returns-in_ok-flush-clause-answered g c =
    let t = c.in_ok-answer.ensures.ok in
    let emptied : HandsOut c.args.lines.now (Some c.in-Some.line) c.next_line.follows.lender-at-none = rw c.in-Some.is at c.next_line.follows.holds-at-none in (
      t.0,
      Gathers-written (g.W.Write.contents c.args.writer.now) (g.W.Write.contents c.flush.new.writer) c.args.out.now.items c.answer.new.out.items c.flush.new.out.items t.0
          t.1 c.in_ok-flush.ensures.written c.flush.ensures.empty,
      rw (emptied, c.in-Some.ensures.waiting.0) (AnswersFront-line g.S.LineService.replies c.args.service.now c.answer.new.self c.in-Some.line.now t.0 c.in-Some.ensures.waiting.1 t.2),
    )

pub returns-else-capacity-len-lt-LINE_LIMIT-clause-answered : goal.returns-else-capacity-len-lt-LINE_LIMIT-clause-answered
returns-else-capacity-len-lt-LINE_LIMIT-clause-answered g c =
    let t = c.in_ok-answer.ensures.ok in
    let emptied : HandsOut c.args.lines.now (Some c.in-Some.line) c.next_line.follows.lender-at-none = rw c.in-Some.is at c.next_line.follows.holds-at-none in (
      t.0,
      Gathers-text (g.W.Write.contents c.args.writer.now) c.args.out.now.items c.answer.new.out.items t.0 t.1,
      rw (emptied, c.in-Some.ensures.waiting.0) (AnswersFront-line g.S.LineService.replies c.args.service.now c.answer.new.self c.in-Some.line.now t.0 c.in-Some.ensures.waiting.1 t.2),
    )

pub returns-in_err-answer-clause-fault : goal.returns-in_err-answer-clause-fault
returns-in_err-answer-clause-fault g c =
    let replies = g.S.LineService.replies in
    let writer = g.W.Write.contents c.args.writer.now in
    let before = c.args.out.now.items in
    let same : c.answer.new.out.items ≡ before = c.in_err-answer.ensures.err in
    let leaves : LeavesOff replies c.args.service.now c.answer.new.self c.args.lines.now writer writer before c.answer.new.out.items OutOfMemory = (
      [],
      c.args.lines.now,
      AnswersFront-stays replies c.args.service.now c.answer.new.self c.args.lines.now c.in_err-answer.ensures.stays,
      Gathers-text writer before c.answer.new.out.items [] (same ∙ sym (append-nil before)),
    ) in
    at_fault c.from_residual.result OutOfMemory
    (LeavesOff replies c.args.service.now c.answer.new.self c.args.lines.now writer writer before c.answer.new.out.items) c.from_residual.ensures.1 leaves

pub returns-in_err-flush-clause-fault : goal.returns-in_err-flush-clause-fault
returns-in_err-flush-clause-fault g c =
    let replies = g.S.LineService.replies in
    let old = g.W.Write.contents c.args.writer.now in
    let new = g.W.Write.contents c.flush.new.writer in
    let before = c.args.out.now.items in
    let t = c.in_ok-answer.ensures.ok in
    let begun = c.in_err-flush.ensures.begun in
    let adds : Appends old new (take begun.0 (before ++ t.0)) = rw t.1 at begun.1 in
    let front : AnswersFront replies c.args.service.now c.answer.new.self c.args.lines.now [] t.0 =
    rw c.in-Some.ensures.waiting.0 (AnswersFront-line replies c.args.service.now c.answer.new.self c.in-Some.line.now t.0 c.in-Some.ensures.waiting.1 t.2) in
    let leaves : LeavesOff replies c.args.service.now c.answer.new.self c.args.lines.now old new before c.flush.new.out.items Write =
    (t.0, [], front, begun.0, adds, c.flush.ensures.empty) in
    at_fault c.from_residual-in_err-flush.result c.in_err-flush.field-0.0
    (LeavesOff replies c.args.service.now c.answer.new.self c.args.lines.now old new before c.flush.new.out.items) c.from_residual-in_err-flush.ensures.1
    (rw c.in_err-flush.ensures.error leaves)
