use Rattle.std.proofs.Common.{◌≡◌, ap, sym, ◌∙◌, refl, rules}
use Rattle.std.proofs.lemmas.Option.{slice_get_read}
use Rattle.closed_store.specs.declared.transcript.Transcript.{Transcript}
use Rattle.settle.proofs.Words.{some_is}
use Rattle.settle.proofs.progress.Progress.is_seat_over_at.Goals as goal

pub returns : goal.returns
returns c = record {
  over = search rules;
  left = λ trace stands is all.
      let session = c.index.result.now in
      let at = slice_get_read c.args.closed.now.transcripts.items _ c.args.place session refl c.requires.place c.index.ensures in
      c.is_over_at.ensures.left trace stands is
      (λ transcript its. let same : session ≡ transcript = some_is session transcript (sym at ∙ its.0) in all transcript its (ap (λ (t : Transcript). t.seat) (sym same) ∙ c.if-index-seat.false));
}
