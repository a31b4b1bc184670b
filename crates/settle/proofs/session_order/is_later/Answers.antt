use Rattle.std.proofs.Common.{◌↔◌, false, IsTrue, refl, ap, sym, ◌∙◌, subst}
use Rattle.std.specs.Option.{option_copied}
use Rattle.std.proofs.lemmas.Option.{slice_get_read}
use Rattle.settle.specs.Sessions.{IsLater}
use Rattle.settle.proofs.Words.{looked_up}
use Rattle.settle.proofs.Passing.{later_by, later_none}
use Rattle.settle.proofs.session_order.is_later.Goals as goal

pub returns-in-Some-get : goal.returns-in-Some-get
returns-in-Some-get c =
    let here = slice_get_read c.args.transcripts.now _ c.args.place c.index-transcripts-place.result refl c.requires c.index-transcripts-place.is in
    let at = sym (looked_up c.args.transcripts.now c.in-Some.earlier c.get.result c.get.ensures.lookup.0 c.get.ensures.lookup.1) ∙ ap option_copied c.in-Some-get.is in
    subst (λ o. IsTrue c.comes_before.result ↔ IsLater c.args.transcripts.now o c.args.place) (sym c.in-Some.is)
    (later_by c.args.transcripts.now c.in-Some.earlier c.args.place c.in-Some-get.session.now c.index-transcripts-place.result at here c.comes_before.result c.comes_before.ensures)

pub returns-in-None : goal.returns-in-None
returns-in-None c =
    let at = sym (looked_up c.args.transcripts.now c.in-Some.earlier c.get.result c.get.ensures.lookup.0 c.get.ensures.lookup.1) ∙ ap option_copied c.in-None.is in
    subst (λ o. IsTrue false ↔ IsLater c.args.transcripts.now o c.args.place) (sym c.in-Some.is)
    (later_none c.args.transcripts.now c.in-Some.earlier c.args.place at)
