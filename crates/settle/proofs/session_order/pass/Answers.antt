use Rattle.std.proofs.Common.{ℕ, ◌+◌, ◌≡◌, cond, Some, ◌++◌, [], ◌∷◌, None, ap, refl, sym, ◌∙◌, subst, nat_eq}
use Rattle.std.proofs.lemmas.Option.{slice_get_read}
use Rattle.indexmap.specs.IndexMap.{get}
use Rattle.settle.specs.Sessions.{IsLater, AreBefore}
use Rattle.settle.proofs.Passing.{is_ok, lasts_kept, befores_kept, lasts_added, befores_added}
use Rattle.settle.proofs.session_order.pass.Goals as goal

pub returns-then-transcript-tenant : goal.returns-then-transcript-tenant
returns-then-transcript-tenant c =
    let here = slice_get_read c.args.transcripts.now _ c.args.place c.index-transcripts-place.result refl c.requires.place c.index-transcripts-place.is in
    let pushed = c.push_reserved.ensures.items ∙ ap (λ items. items ++ None ∷ []) c.reserve.ensures.items in record {
      lasts = λ _. lasts_kept c.args.transcripts.now c.args.tenant c.args.place c.index-transcripts-place.result here c.if-transcript-tenant.true c.args.lasts.now c.requires.lasts;
      before = λ _. subst (AreBefore c.args.transcripts.now c.args.tenant (c.args.place + 1)) (sym pushed)
          (befores_kept c.args.transcripts.now c.args.tenant c.args.place c.index-transcripts-place.result here c.if-transcript-tenant.true c.args.before.now.items c.requires.before);
    }

pub returns : goal.returns
returns c =
    let here = slice_get_read c.args.transcripts.now _ c.args.place c.index-transcripts-place.result refl c.requires.place c.index-transcripts-place.is in
    let client = c.index-transcripts-place.result.client in
    let found = get nat_eq c.args.lasts.now client in
    let is : c.copied-last.result ≡ found = c.copied-last.ensures ∙ c.get-2.ensures.value ∙ ap (get nat_eq c.args.lasts.now) c.get.ensures.value in
    let later : IsLater c.args.transcripts.now found c.args.place = subst (λ o. IsLater c.args.transcripts.now o c.args.place) is (c.is_later.ensures.0 c.if-not-is_later.false) in
    let pushed = c.push_reserved-2.ensures.items ∙ ap (λ items. items ++ c.copied-last.result ∷ []) c.reserve.ensures.items ∙ ap (λ o. c.args.before.now.items ++ o ∷ []) is in
    let told = (is_ok c.insert.result (sym c.is_err.ensures.value ∙ c.if-is_err.false) c.insert.ensures.updates).0 in record {
      lasts = λ _. lasts_added c.args.transcripts.now c.args.tenant c.args.place c.index-transcripts-place.result here c.if-transcript-tenant.false c.args.lasts.now c.requires.lasts later c.insert.new.self
          (subst (λ k. (q : ℕ) → get nat_eq c.insert.new.self q ≡ cond (nat_eq k q) (Some c.args.place) (get nat_eq c.args.lasts.now q)) c.get-3.ensures.value told);
      before = λ _. subst (AreBefore c.args.transcripts.now c.args.tenant (c.args.place + 1)) (sym pushed)
          (befores_added c.args.transcripts.now c.args.tenant c.args.place c.index-transcripts-place.result here c.if-transcript-tenant.false c.args.lasts.now c.requires.lasts later c.args.before.now.items c.requires.before);
    }
