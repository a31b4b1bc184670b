use Rattle.std.proofs.Common.{sym, refl, subst, rules}
use Rattle.std.proofs.lemmas.Option.{slice_get_read}
use Rattle.settle.specs.Input.{input_of}
use Rattle.settle.specs.Standing.{IsCompared}
use Rattle.settle.specs.Fronts.{IsTranscriptAt}
use Rattle.settle.proofs.Words.{if_ok_both}
use Rattle.settle.proofs.Choices.{open_item, chooses_by, chooses_greeting, chooses_nothing}
use Rattle.settle.proofs.progress.Progress.next_of_transcript.Goals as goal

pub returns-in-Waiting : goal.returns-in-Waiting
returns-in-Waiting c = record {
  choice = λ trace stands.
      let input = input_of c.args.closed.now c.args.tenant c.args.self.now.replay.limits in
      let transcript = c.index-transcript.result.now in
      let at = slice_get_read c.args.closed.now.transcripts.items _ c.args.place transcript refl c.requires.place c.index-transcript.ensures in
      let staged = slice_get_read c.args.self.now.stages.items _ c.args.place c.index.result.now (sym c.requires.given.sized.stages) c.requires.place c.index.ensures in
      let its : IsTranscriptAt input c.args.place transcript = (at, c.if-transcript-tenant.false) in
      chooses_greeting input trace c.args.place transcript its c.index.result.now (stands.noted.stages c.args.place transcript c.index.result.now its staged) c.in-Waiting.is c.greeting.result
      (c.greeting.ensures.gives trace transcript stands its);
  within = search rules;
}

pub returns-in-Open : goal.returns-in-Open
returns-in-Open c =
    if_ok_both c.entry.result _ _ _
    (λ o entry within. record {
      choice = λ trace stands.
          let input = input_of c.args.closed.now c.args.tenant c.args.self.now.replay.limits in
          let transcript = c.index-transcript.result.now in
          let at = slice_get_read c.args.closed.now.transcripts.items _ c.args.place transcript refl c.requires.place c.index-transcript.ensures in
          let staged = slice_get_read c.args.self.now.stages.items _ c.args.place c.index.result.now (sym c.requires.given.sized.stages) c.requires.place c.index.ensures in
          let its : IsTranscriptAt input c.args.place transcript = (at, c.if-transcript-tenant.false) in
          let is_at = stands.noted.stages c.args.place transcript c.index.result.now its staged in
          let item = open_item transcript c.index.result.now c.in-Open.read c.in-Open.is in
          chooses_by input trace c.args.place transcript its c.index.result.now is_at item.0 item.1 o
          (entry trace item.0 stands.noted (subst (IsCompared transcript) c.in-Open.is is_at.compared) item.2);
      within = within;
    })
    c.entry.ensures.gives c.entry.ensures.within

pub returns-in-Over : goal.returns-in-Over
returns-in-Over c = record {
  choice = λ trace stands act may.
      let input = input_of c.args.closed.now c.args.tenant c.args.self.now.replay.limits in
      let transcript = c.index-transcript.result.now in
      let at = slice_get_read c.args.closed.now.transcripts.items _ c.args.place transcript refl c.requires.place c.index-transcript.ensures in
      let staged = slice_get_read c.args.self.now.stages.items _ c.args.place c.index.result.now (sym c.requires.given.sized.stages) c.requires.place c.index.ensures in
      let its : IsTranscriptAt input c.args.place transcript = (at, c.if-transcript-tenant.false) in
      chooses_nothing input trace c.args.place transcript its c.index.result.now (stands.noted.stages c.args.place transcript c.index.result.now its staged) c.in-Over.is act may;
  within = search rules;
}
