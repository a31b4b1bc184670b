use Rattle.std.proofs.Common.{◌≡◌, ◌++◌, [], List, ℕ, drop, length, sym, ap, subst, ◌∙◌}
use Rattle.std.proofs.lemmas.Bool.{eqb-true}
use Rattle.std.proofs.lemmas.List.{append-nil, nil_from_length, take_rest}
use Rattle.line_runs.specs.RunAnswers.{AnswersFront, LeavesOff}
use Rattle.line_runs.proofs.Faults.{at_fault}
use Rattle.line_runs.proofs.Fronts.{AnswersFront-goes, AnswersFront-more, AnswersFront-trans, LeavesOff-after, fed_whole}
use Rattle.line_runs.proofs.Gathering.{Gathers-trans}
use Rattle.line_runs.proofs.Steps.{Continues-stops, IsTooLong-append, IsTooLong-take}
use Rattle.line_runs.proofs.run.answer_piece.Goals as goal

pub returns-in-Err-clause-answered : goal.returns-in-Err-clause-answered
returns-in-Err-clause-answered g c =
    let replies = g.S.LineService.replies in
    let old = c.args.service.now in
    let now = c.loop-rest.service in
    let stream = c.args.lines.now ++ c.args.piece.now in
    let so_far = c.loop-rest.invariant.answered in
    let unread = c.loop-rest.lines ++ c.loop-rest.rest.now in
    let long = c.in-Err.ensures.too_long in (
      so_far.0,
      so_far.1,
      λ more. Continues-stops replies old now (stream ++ more) (unread ++ more) c.feed.new.self so_far.0
          (AnswersFront-goes replies old now (stream ++ more) (unread ++ more) so_far.0 (AnswersFront-more replies old now stream unread more so_far.0 so_far.2))
          (IsTooLong-append unread more long) (rw c.in-Err.ensures.err (IsTooLong-take unread long)),
    )

pub loop-rest-preserved : goal.loop-rest-preserved
loop-rest-preserved g c =
    let so_far = c.loop-rest.invariant.answered in
    let next = c.in_ok-answer_waiting.ensures.answered in
    record {
      ready = c.in_ok-answer_waiting.ensures.ready;
      waits = c.in_ok-answer_waiting.ensures.waits;
      answered = (
        so_far.0 ++ next.0,
        Gathers-trans _ _ _ _ _ _ so_far.0 next.0 so_far.1 next.1,
        rw take_rest (AnswersFront-trans g.S.LineService.replies c.args.service.now c.loop-rest.service c.answer_waiting.new.service
            (c.args.lines.now ++ c.args.piece.now) (c.loop-rest.lines ++ c.loop-rest.rest.now) c.feed.new.self c.answer_waiting.new.lines (drop c.in-Ok.taken c.loop-rest.rest.now)
            so_far.0 next.0 so_far.2 next.2 (fed_whole c.loop-rest.lines c.feed.new.self c.loop-rest.rest.now c.in-Ok.taken c.in-Ok.ensures.ok)),
      );
    }

pub returns-clause-answered : goal.returns-clause-answered
returns-clause-answered g c =
    let so_far = c.loop-rest.invariant.answered in
    let size : length c.loop-rest.rest.now ≡ 0 = eqb-true (length c.loop-rest.rest.now) 0 (sym c.is_empty.ensures ∙ c.loop-rest-test.false) in
    let none : c.loop-rest.rest.now ≡ [] = nil_from_length c.loop-rest.rest.now size in
    let whole : c.loop-rest.lines ++ c.loop-rest.rest.now ≡ c.loop-rest.lines = ap (λ (r : List ℕ). c.loop-rest.lines ++ r) none ∙ append-nil c.loop-rest.lines in (
      so_far.0,
      so_far.1,
      subst (λ (left : List ℕ). AnswersFront g.S.LineService.replies c.args.service.now c.loop-rest.service (c.args.lines.now ++ c.args.piece.now) left so_far.0) whole so_far.2,
    )

pub returns-in_err-answer_waiting-clause-fault : goal.returns-in_err-answer_waiting-clause-fault
returns-in_err-answer_waiting-clause-fault g c =
    let replies = g.S.LineService.replies in
    let stream = c.args.lines.now ++ c.args.piece.now in
    let so_far = c.loop-rest.invariant.answered in
    let fed = fed_whole c.loop-rest.lines c.feed.new.self c.loop-rest.rest.now c.in-Ok.taken c.in-Ok.ensures.ok in
    at_fault c.from_residual.result c.in_err-answer_waiting.field-0.0
    (LeavesOff replies c.args.service.now c.answer_waiting.new.service stream (g.W.Write.contents c.args.writer.now) (g.W.Write.contents c.answer_waiting.new.writer)
    c.args.out.now.items c.answer_waiting.new.out.items) c.from_residual.ensures.1
    (LeavesOff-after replies c.args.service.now c.loop-rest.service c.answer_waiting.new.service stream (c.loop-rest.lines ++ c.loop-rest.rest.now) c.feed.new.self (drop c.in-Ok.taken c.loop-rest.rest.now)
    _ _ _ _ _ _ so_far.0 c.in_err-answer_waiting.field-0.0 so_far.2 so_far.1 fed c.in_err-answer_waiting.ensures.fault)
