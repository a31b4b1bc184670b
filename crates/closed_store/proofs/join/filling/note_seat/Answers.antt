use Rattle.std.proofs.Common.{refl, sym, ◌∙◌}
use Rattle.std.proofs.lemmas.Option.{slice_get_read}
use Rattle.closed_store.proofs.Risen.{is_ok}
use Rattle.closed_store.proofs.Filled.{places_kept, places_added}
use Rattle.closed_store.proofs.join.filling.note_seat.Goals as goal

pub returns-then-contains_key : goal.returns-then-contains_key
returns-then-contains_key c =
    let here = slice_get_read c.args.transcripts.now _ c.args.place c.index-transcripts-place.result refl c.requires.place c.index-transcripts-place.is in
    places_kept c.args.transcripts.now c.args.place c.index-transcripts-place.result here c.args.places.now c.requires.places (sym c.contains_key.ensures ∙ c.if-contains_key.true)

pub returns : goal.returns
returns c =
    let here = slice_get_read c.args.transcripts.now _ c.args.place c.index-transcripts-place.result refl c.requires.place c.index-transcripts-place.is in
    places_added c.args.transcripts.now c.args.place c.index-transcripts-place.result here c.args.places.now c.insert.new.self c.requires.places
    (sym c.contains_key.ensures ∙ c.if-contains_key.false) (is_ok c.insert.result (sym c.is_err.ensures.value ∙ c.if-is_err.false) c.insert.ensures.updates).0
