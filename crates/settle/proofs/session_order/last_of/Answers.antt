use Rattle.std.proofs.Common.{◌≡◌, refl, sym, ◌∙◌, subst}
use Rattle.std.proofs.lemmas.Bool.{both_ways}
use Rattle.std.proofs.lemmas.Option.{slice_get_read}
use Rattle.settle.specs.Fronts.{ComesBefore}
use Rattle.settle.proofs.Words.{some_is}
use Rattle.settle.proofs.Passing.{passed_over, not_last, is_last}
use Rattle.settle.proofs.session_order.last_of.Goals as goal

pub returns-then-session-tenant : goal.returns-then-session-tenant
returns-then-session-tenant c transcript its before =
    let there = slice_get_read c.args.transcripts.now _ c.args.other c.index-transcripts-other.result refl c.requires.other c.index-transcripts-other.is in
    passed_over c.args.transcripts.now c.args.tenant c.args.place c.args.other c.index-transcripts-other.result transcript there c.args.last before (λ own. absurd (c.if-session-tenant.true own))

pub returns-then-not-comes_before : goal.returns-then-not-comes_before
returns-then-not-comes_before c transcript its before =
    let there = slice_get_read c.args.transcripts.now _ c.args.other c.index-transcripts-other.result refl c.requires.other c.index-transcripts-other.is in
    let here = slice_get_read c.args.transcripts.now _ c.args.place c.index-transcripts-place.result refl c.requires.place c.index-transcripts-place.is in
    let same : transcript ≡ c.index-transcripts-place.result = some_is transcript c.index-transcripts-place.result (sym its.0 ∙ here) in
    passed_over c.args.transcripts.now c.args.tenant c.args.place c.args.other c.index-transcripts-other.result transcript there c.args.last before
    (λ own comes. both_ways c.comes_before.result c.if-not-comes_before.true (c.comes_before.ensures.1 (subst (ComesBefore c.args.other c.index-transcripts-other.result c.args.place) same comes)))

pub returns-then-not-is_later : goal.returns-then-not-is_later
returns-then-not-is_later c transcript its before =
    let there = slice_get_read c.args.transcripts.now _ c.args.other c.index-transcripts-other.result refl c.requires.other c.index-transcripts-other.is in
    let here = slice_get_read c.args.transcripts.now _ c.args.place c.index-transcripts-place.result refl c.requires.place c.index-transcripts-place.is in
    let same : c.index-transcripts-place.result ≡ transcript = some_is c.index-transcripts-place.result transcript (sym here ∙ its.0) in
    not_last c.args.transcripts.now c.args.tenant c.args.place c.args.other c.index-transcripts-other.result transcript there c.args.last before
    (subst (ComesBefore c.args.other c.index-transcripts-other.result c.args.place) same (c.comes_before.ensures.0 c.if-not-comes_before.false))
    (λ later. both_ways c.is_later.result c.if-not-is_later.true (c.is_later.ensures.1 later))

pub returns : goal.returns
returns c transcript its before =
    let there = slice_get_read c.args.transcripts.now _ c.args.other c.index-transcripts-other.result refl c.requires.other c.index-transcripts-other.is in
    let here = slice_get_read c.args.transcripts.now _ c.args.place c.index-transcripts-place.result refl c.requires.place c.index-transcripts-place.is in
    let same : c.index-transcripts-place.result ≡ transcript = some_is c.index-transcripts-place.result transcript (sym here ∙ its.0) in
    is_last c.args.transcripts.now c.args.tenant c.args.place c.args.other c.index-transcripts-other.result transcript there c.args.last before c.if-session-tenant.false
    (subst (ComesBefore c.args.other c.index-transcripts-other.result c.args.place) same (c.comes_before.ensures.0 c.if-not-comes_before.false))
    (c.is_later.ensures.0 c.if-not-is_later.false)
