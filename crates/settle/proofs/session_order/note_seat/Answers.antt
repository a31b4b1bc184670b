use Rattle.std.proofs.Common.{refl, sym, ◌∙◌}
use Rattle.std.proofs.lemmas.Option.{slice_get_read}
use Rattle.settle.proofs.Passing.{is_ok, slots_kept, slots_added}
use Rattle.settle.proofs.session_order.note_seat.Goals as goal

pub returns-then-transcript-tenant : goal.returns-then-transcript-tenant
returns-then-transcript-tenant c =
    let here = slice_get_read c.args.transcripts.now _ c.args.place c.index-transcripts-place.result refl c.requires.place c.index-transcripts-place.is in
    slots_kept c.args.transcripts.now c.args.tenant c.args.place c.index-transcripts-place.result here c.args.slots.now c.requires.slots (λ own. absurd (c.if-transcript-tenant.true own))

pub returns-then-contains_key : goal.returns-then-contains_key
returns-then-contains_key c =
    let here = slice_get_read c.args.transcripts.now _ c.args.place c.index-transcripts-place.result refl c.requires.place c.index-transcripts-place.is in
    slots_kept c.args.transcripts.now c.args.tenant c.args.place c.index-transcripts-place.result here c.args.slots.now c.requires.slots (λ own. sym c.contains_key.ensures ∙ c.if-contains_key.true)

pub returns : goal.returns
returns c =
    let here = slice_get_read c.args.transcripts.now _ c.args.place c.index-transcripts-place.result refl c.requires.place c.index-transcripts-place.is in
    slots_added c.args.transcripts.now c.args.tenant c.args.place c.index-transcripts-place.result here c.args.slots.now c.insert.new.self c.requires.slots c.if-transcript-tenant.false
    (sym c.contains_key.ensures ∙ c.if-contains_key.false) (is_ok c.insert.result (sym c.is_err.ensures.value ∙ c.if-is_err.false) c.insert.ensures.updates).0
