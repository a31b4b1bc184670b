use Rattle.std.proofs.Common.{◌∷◌, [], ◌++◌, refl, sym, ap, ◌∙◌}
use Rattle.std.proofs.lemmas.Option.{slice_get_read}
use Rattle.settle.specs.Input.{input_of}
use Rattle.settle.specs.Trace.{OfTranscript}
use Rattle.settle.specs.Replaying.{step_of}
use Rattle.settle.proofs.Words.{match_pushed}
use Rattle.settle.proofs.Taken.{ready_already, written}
use Rattle.settle.proofs.Transcripts.{next_reply}
use Rattle.settle.proofs.progress.Progress.take_of_transcript.Goals as goal

pub returns-in-Ok : goal.returns-in-Ok
returns-in-Ok c = record {
  takes = λ trace stands may.
      let input = input_of c.args.closed.now c.args.tenant c.args.self.now.replay.limits in
      let origin = OfTranscript c.args.place in
      let old = c.args.self.now in
      let ready = ready_already input trace origin old stands refl in
      let session = c.index.result.now in
      let stage = c.index-2.result.now in
      let at = slice_get_read c.args.closed.now.transcripts.items _ c.args.place session refl c.requires.place c.index.ensures in
      let staged = slice_get_read old.stages.items _ c.args.place stage (sym c.requires.given.sized.stages) c.requires.place c.index-2.ensures in
      let found = next_reply input trace c.args.place session stage c.reply_next-reply.result at (λ transcript its. stands.noted.stages c.args.place transcript stage its staged) c.reply_next-reply.ensures in
      match_pushed input trace origin c.args.act old.replay.loses c.push_step.result _ _ c.push_step.ensures.ok c.push_step.ensures.err
      (λ pushed. written input trace origin c.args.act old c.note_item.new.self _ ready may (c.in-Ok.ensures.notes trace ready.noted may found) refl refl refl refl
      (pushed ∙ ap (λ steps. steps.items ++ step_of c.args.tenant c.args.act ∷ []) c.note_item.ensures.keeps.steps));
  sized =
      let sized = c.note_item.ensures.keeps.size.sized c.args.closed.now c.requires.given.sized in
      record { stages = sized.stages; sent = sized.sent; replies = sized.replies };
  settings = c.note_item.ensures.keeps.size.settings;
}

pub returns-in-Err : goal.returns-in-Err
returns-in-Err c = record {
  takes = λ trace stands may.
      let input = input_of c.args.closed.now c.args.tenant c.args.self.now.replay.limits in
      let old = c.args.self.now in
      let ready = ready_already input trace (OfTranscript c.args.place) old stands refl in
      let session = c.index.result.now in
      let stage = c.index-2.result.now in
      let at = slice_get_read c.args.closed.now.transcripts.items _ c.args.place session refl c.requires.place c.index.ensures in
      let staged = slice_get_read old.stages.items _ c.args.place stage (sym c.requires.given.sized.stages) c.requires.place c.index-2.ensures in
      c.in-Err.ensures.notes trace ready.noted may
      (next_reply input trace c.args.place session stage c.reply_next-reply.result at (λ transcript its. stands.noted.stages c.args.place transcript stage its staged) c.reply_next-reply.ensures);
  sized = c.note_item.ensures.keeps.size.sized c.args.closed.now c.requires.given.sized;
  settings = c.note_item.ensures.keeps.size.settings;
}
