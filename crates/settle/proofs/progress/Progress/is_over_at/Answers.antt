use Rattle.std.proofs.Common.{sym, refl}
use Rattle.std.proofs.lemmas.Bool.{both_ways}
use Rattle.std.proofs.lemmas.Option.{slice_get_read}
use Rattle.settle.specs.Input.{input_of}
use Rattle.settle.specs.Fronts.{IsTranscriptAt}
use Rattle.settle.proofs.NextSteps.{over, not_over}
use Rattle.settle.proofs.progress.Progress.is_over_at.Goals as goal

pub returns : goal.returns
returns c = record {
  over = λ trace stands is transcript its.
      let staged = slice_get_read c.args.self.now.stages.items _ c.args.place c.index-2.result.now (sym c.requires.sized.stages) c.requires.place c.index-2.ensures in
      over trace c.args.place transcript c.index-2.result.now (stands.noted.stages c.args.place transcript c.index-2.result.now its staged) (c.is_over.ensures.0 is);
  left = λ trace stands is all.
      let input = input_of c.args.closed.now c.args.tenant c.args.self.now.replay.limits in
      let transcript = c.index.result.now in
      let at = slice_get_read c.args.closed.now.transcripts.items _ c.args.place transcript refl c.requires.place c.index.ensures in
      let its : IsTranscriptAt input c.args.place transcript = (at, c.if-index-tenant.false) in
      let staged = slice_get_read c.args.self.now.stages.items _ c.args.place c.index-2.result.now (sym c.requires.sized.stages) c.requires.place c.index-2.ensures in
      not_over trace c.args.place transcript c.index-2.result.now (stands.noted.stages c.args.place transcript c.index-2.result.now its staged)
      (λ e. both_ways c.is_over.result is (c.is_over.ensures.1 e)) (all transcript its);
}
