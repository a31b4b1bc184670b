use Rattle.std.proofs.Common.{ℕ, List, slice_get, ap, sym, ◌∙◌}
use Rattle.std.specs.Option.{option_copied}
use Rattle.settle.specs.Program.{at_place}
use Rattle.settle.specs.Input.{transcripts_in}
use Rattle.settle.proofs.Words.{looked_up}
use Rattle.settle.proofs.NextSteps.{none_sent_at, not_unlisted, sent_at}
use Rattle.settle.proofs.progress.Progress.row_sent.Goals as goal

pub returns-in_default : goal.returns-in_default
returns-in_default c input trace sized places stands = none_sent_at input trace c.args.self.now stands c.args.seat c.args.number (c.in_default.ensures (transcripts_in input) input.tenant places)

pub returns-in_default-get : goal.returns-in_default-get
returns-in_default-get c input trace sized places stands =
    let its = c.in-Some.ensures (transcripts_in input) input.tenant places in
    let looked = looked_up c.deref.result.now c.in-Some.slot c.get.result c.get.ensures.lookup.0 c.get.ensures.lookup.1 in
    absurd (not_unlisted input trace c.args.self.now stands c.args.seat c.args.number c.in-Some.slot sized its
    (ap (λ xs. slice_get xs c.in-Some.slot) (sym c.deref.ensures.value) ∙ sym looked ∙ ap option_copied c.in_default-get.is))

pub returns : goal.returns
returns c input trace sized places stands =
    let its = c.in-Some.ensures (transcripts_in input) input.tenant places in
    let looked = looked_up c.deref.result.now c.in-Some.slot c.get.result c.get.ensures.lookup.0 c.get.ensures.lookup.1 in
    let at = ap (λ xs. slice_get xs c.in-Some.slot) (sym c.deref.ensures.value) ∙ sym looked ∙ ap option_copied c.in-Some-get.is in
    c.at_place.ensures ∙ ap (λ (items : List ℕ). at_place items c.args.number) c.as_slice.ensures.value ∙ sent_at input trace c.args.self.now stands c.args.seat c.args.number c.in-Some.slot c.in-Some-get.rows.now its at
