use Rattle.std.proofs.Common.{◌≡◌, inl, inr, ◌==◌, not, true, false, get_or, count_by, refl, sym, ap, ◌∙◌, arith}
use Rattle.std.proofs.lemmas.Bool.{cases_lt}
use Rattle.version_chain.specs.Heads.{Heads}
use Rattle.version_chain.specs.declared.stamp_list.Kept.{Kept}
use Rattle.version_chain.specs.Listed.{is_named}
use Rattle.version_chain.proofs.Discarding.{found, same_place}
use Rattle.version_chain.proofs.Listing.{count_filter, true_not}
use Rattle.version_chain.proofs.Places.{places, places_long, place_in, place_named}
use Rattle.version_chain.proofs.chains.Chains.has_unheld.Goals as goal

pub loop-place-init : goal.loop-place-init
loop-place-init c i k less within is = absurd (omega (arith, less))

pub loop-place-preserved : goal.loop-place-preserved
loop-place-preserved c i k less within is =
    let heads = c.args.self.now in
    let stamp = c.args.stamp in
    let place = c.loop-place.place in
    let kept = c.kept_in.result in
    let first = c.args.first in
    let end = c.args.end in
    elim (cases_lt i place) [
      | inl before ↦ c.loop-place.invariant i k before within is
      | inr after ↦
          let same : i ≡ place = omega (arith, less, after) in
          let long = places_long heads stamp first end c.requires in
          let at = place_in heads stamp first end c.requires place kept c.loop-place-test.true c.kept_in.ensures in
          let this : k ≡ kept = is ∙ ap (λ n. get_or (places heads stamp) n k) same ∙ same_place (places heads stamp) place k kept (omega (arith, within, same)) ∙ sym at in
          ap (is_named heads.tenant c.args.block.now) this ∙ ap (λ t. is_named t c.args.block.now kept) (sym (ap (λ (h : Heads). h.tenant) c.self.view_is)) ∙ sym c.is_held.ensures ∙ c.if-not-is_held.false
    ]

pub returns-then-not-is_held : goal.returns-then-not-is_held
returns-then-not-is_held c =
    let heads = c.args.self.now in
    let stamp = c.args.stamp in
    let place = c.loop-place.place in
    let kept = c.kept_in.result in
    let long = places_long heads stamp c.args.first c.args.end c.requires in
    let at = place_in heads stamp c.args.first c.args.end c.requires place kept c.loop-place-test.true c.kept_in.ensures in
    let gone : is_named heads.tenant c.args.block.now kept ≡ false = ap (λ t. is_named t c.args.block.now kept) (sym (ap (λ (h : Heads). h.tenant) c.self.view_is)) ∙ sym c.is_held.ensures ∙ c.if-not-is_held.true in (
      λ untrue. absurd (let g : true ≡ false = untrue in cc),
      λ swept. sym (place_named c.args.block.now heads stamp place kept (omega (arith, long, c.loop-place-test.true)) at swept) ∙ gone,
    )

pub returns : goal.returns
returns c =
    let heads = c.args.self.now in
    let stamp = c.args.stamp in
    let ks = places heads stamp in
    let gone = λ (k : Kept). not (is_named heads.tenant c.args.block.now k) in
    let long = places_long heads stamp c.args.first c.args.end c.requires in
    let none : count_by gone ks ≡ 0 = elim (cases_lt 0 (count_by gone ks)) [
      | inl more ↦
          let at = found gone ks more in
          absurd (true_not (is_named heads.tenant c.args.block.now at.1) (c.loop-place.invariant at.0 at.1 (let less = at.2 in omega (arith, less, long, c.loop-place-test.false)) at.2 at.3) at.4)
      | inr few ↦ omega (arith, few)
    ] in
    (λ held. sym (count_filter gone (λ (k : Kept). k.stamp == stamp) heads.kept) ∙ none, λ swept. refl)
