use Rattle.std.proofs.Common.{◌<◌, sym, refl, subst}
use Rattle.std.proofs.lemmas.Bool.{both_ways}
use Rattle.std.proofs.lemmas.Option.{slice_get_read, slice_get_within}
use Rattle.settle.specs.Input.{input_of}
use Rattle.settle.specs.Trace.{OfTranscript, rows_sent, after, acts_of}
use Rattle.settle.specs.Fronts.{Delivers}
use Rattle.settle.specs.Standing.{AreAll, Advances, IsPushed}
use Rattle.settle.proofs.Words.{match_pushed}
use Rattle.settle.proofs.Transcripts.{indexed, has_slot, transcript_agrees, transcript_agreed, transcript_noted, first_left}
use Rattle.settle.proofs.progress.Progress.note_item.Goals as goal

pub returns-then-not-delivers-clause-notes : goal.returns-then-not-delivers-clause-notes
returns-then-not-delivers-clause-notes c trace noted may found agrees =
    let input = input_of c.args.closed.now c.args.tenant c.args.self.now.replay.limits in
    let has = c.may_have_lost.ensures.has input (acts_of input trace) (after input trace) noted.replays c.if-may_have_lost.false in
    let transcript = c.index-transcript.result.now in
    let at = slice_get_read c.args.closed.now.transcripts.items _ c.args.place transcript refl c.requires.place c.index-transcript.ensures in
    let next = indexed input trace c.args.place c.args.step.now.act transcript at may in
    let both = transcript_agreed input trace c.args.place c.args.step.now.act transcript next.1 next.0 next.2 agrees in
    both_ways c.delivers.result c.if-not-delivers.true ((c.delivers.ensures input trace noted.replays has).1 (subst (Delivers (after input trace) c.args.step.now.act) (sym (found transcript next.0 next.1 next.2)) both.1))

pub returns-in_default-clause-notes : goal.returns-in_default-clause-notes
returns-in_default-clause-notes c trace noted may found agrees =
    let input = input_of c.args.closed.now c.args.tenant c.args.self.now.replay.limits in
    let transcript = c.index-transcript.result.now in
    let at = slice_get_read c.args.closed.now.transcripts.items _ c.args.place transcript refl c.requires.place c.index-transcript.ensures in
    let next = indexed input trace c.args.place c.args.step.now.act transcript at may in
    has_slot input trace c.args.place c.args.step.now.act transcript next.1
    (c.in_default.ensures c.args.closed.now.transcripts.items c.args.tenant c.requires.given.places)

pub returns-in_default-next_stage-clause-notes : goal.returns-in_default-next_stage-clause-notes
returns-in_default-next_stage-clause-notes c trace noted may found agrees =
    let input = input_of c.args.closed.now c.args.tenant c.args.self.now.replay.limits in
    let has = c.may_have_lost.ensures.has input (acts_of input trace) (after input trace) noted.replays c.if-may_have_lost.false in
    let transcript = c.index-transcript.result.now in
    let stage = c.index-stage.result.now in
    let at = slice_get_read c.args.closed.now.transcripts.items _ c.args.place transcript refl c.requires.place c.index-transcript.ensures in
    let staged = slice_get_read c.args.self.now.stages.items _ c.args.place stage (sym c.requires.given.sized.stages) c.requires.place c.index-stage.ensures in
    let next = indexed input trace c.args.place c.args.step.now.act transcript at may in
    let is_at = noted.stages c.args.place transcript stage next.1 staged in
    let first = first_left input trace c.args.place c.args.step.now.act transcript next.1 stage next.0 is_at next.2 in
    let both = transcript_agreed input trace c.args.place c.args.step.now.act transcript next.1 next.0 next.2 agrees in
    c.in_default-next_stage.ensures next.0 is_at.compared first (subst (λ a. AreAll a next.0.noted) (sym (c.in_ok-step_into.ensures.answer input (acts_of input trace) (after input trace) noted.replays has)) both.0)

pub push_rows_at-requires : goal.push_rows_at-requires
push_rows_at-requires c =
    let slotted = c.in-Some.ensures c.args.closed.now.transcripts.items c.args.tenant c.requires.given.places in
    subst (λ n. c.in-Some.slot < n) (sym c.requires.given.sized.sent) (slice_get_within c.args.closed.now.transcripts.items c.in-Some.slot slotted.transcript slotted.there)

pub returns-clause-notes : goal.returns-clause-notes
returns-clause-notes c trace noted may found =
    let input = input_of c.args.closed.now c.args.tenant c.args.self.now.replay.limits in
    let has = c.may_have_lost.ensures.has input (acts_of input trace) (after input trace) noted.replays c.if-may_have_lost.false in
    let transcript = c.index-transcript.result.now in
    let stage = c.index-stage.result.now in
    let at = slice_get_read c.args.closed.now.transcripts.items _ c.args.place transcript refl c.requires.place c.index-transcript.ensures in
    let staged = slice_get_read c.args.self.now.stages.items _ c.args.place stage (sym c.requires.given.sized.stages) c.requires.place c.index-stage.ensures in
    let next = indexed input trace c.args.place c.args.step.now.act transcript at may in
    let is_at = noted.stages c.args.place transcript stage next.1 staged in
    let first = first_left input trace c.args.place c.args.step.now.act transcript next.1 stage next.0 is_at next.2 in
    let is = c.in_ok-step_into.ensures.answer input (acts_of input trace) (after input trace) noted.replays has in
    let on = subst (λ a. Advances transcript stage next.0 a c.in-Some-next_stage.next) is (c.in-Some-next_stage.ensures next.0 is_at.compared first) in
    let takes = subst (Delivers (after input trace) c.args.step.now.act) (found transcript next.0 next.1 next.2) ((c.delivers.ensures input trace noted.replays has).0 c.if-not-delivers.false) in
    let slotted = c.in-Some.ensures c.args.closed.now.transcripts.items c.args.tenant c.requires.given.places in
    match_pushed input trace (OfTranscript c.args.place) c.args.step.now.act c.args.self.now.replay.loses c.push_rows_at.result _ _ c.push_rows_at.ensures.pushed.ok c.push_rows_at.ensures.pushed.err
    (λ pushed. (
      transcript_noted input trace c.args.place c.args.step.now.act transcript next.1 c.args.self.now c.step_into.new.self _ c.push_rows_at.new.lists stage c.in-Some-next_stage.next next.0 c.in-Some.slot
          noted (c.in_ok-step_into.ensures.stands input (acts_of input trace) (after input trace) noted.replays has).plays staged next.2 on refl slotted
          (subst (λ a. IsPushed c.args.self.now.sent.items c.push_rows_at.new.lists.items c.in-Some.slot (rows_sent a)) is pushed),
      transcript_agrees input trace c.args.place c.args.step.now.act transcript next.1 next.0 next.2 on.all takes,
    ))
